-- The first name is ahead.
use Rattle.std.proofs.Common.{◌∙◌, ap, List}
use Rattle.lpt_packet.specs.Names.{Name}
use Rattle.lpt_ledger.specs.Runs.{runs_of_names}
use Rattle.lpt_ledger.proofs.RunsLemmas.{ahead_is}
use Rattle.lpt_ledger.proofs.ledger.Ledger.runs.Goals as goal

pub returns : goal.returns
returns c =
    ahead_is c.next-ahead.result c.of-names.result c.next-ahead.new.self c.next-ahead.ensures.some
    c.next-ahead.ensures.none
    ∙ ap (λ (ns : List Name). runs_of_names ns) c.of-names.ensures
