use Rattle.lpt_table.proofs.BackLemmas.{due-back, due_at-back, get-set_back}
use Rattle.lpt_table.proofs.laws.set_back_keeps_times.Goals as goal

pub returns-clause-entries : goal.returns-clause-entries
returns-clause-entries c = get-set_back

pub returns-clause-due : goal.returns-clause-due
returns-clause-due c t ticks now reaches f = due-back t ticks now reaches f

pub returns-clause-due_at : goal.returns-clause-due_at
returns-clause-due_at c = due_at-back
