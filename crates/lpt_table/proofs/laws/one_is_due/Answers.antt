use Rattle.lpt_table.proofs.DueLemmas.{due_of_is, due_unique}
use Rattle.lpt_table.proofs.laws.one_is_due.Goals as goal

pub returns-clause-computed : goal.returns-clause-computed
returns-clause-computed c = due_of_is

pub returns-clause-unique : goal.returns-clause-unique
returns-clause-unique c = due_unique
