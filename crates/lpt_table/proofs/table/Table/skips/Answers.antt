-- A part contradicts nothing where nothing is kept.
use Rattle.lpt_reception.specs.Steps.{part_kept}
use Rattle.lpt_reception.proofs.StartLemmas.{new_alone}
use Rattle.lpt_table.proofs.table.Table.skips.Goals as goal

pub returns-in-Any-clause-new : goal.returns-in-Any-clause-new
returns-in-Any-clause-new c = new_alone c.args.part.now.number (part_kept c.args.part.now)

pub returns-in-Strict-clause-new : goal.returns-in-Strict-clause-new
returns-in-Strict-clause-new c = new_alone c.args.part.now.number (part_kept c.args.part.now)
