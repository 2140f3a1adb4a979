-- A reception is open where the list has one of this name.
-- It is written out so that a wrong body is refused at once.
use Rattle.std.proofs.Common.{◌∙◌, ap}
use Rattle.lpt_table.specs.Offering.{is_open}
use Rattle.lpt_table.specs.Tables.{TableState}
use Rattle.lpt_table.proofs.table.Table.is_open.Goals as goal

pub returns : goal.returns
returns c = c.contains.ensures ∙ ap (λ (t : TableState). is_open t c.args.name) c.self.view_is
