-- What is sought upwards from 0 is the least free name.
use Rattle.lpt_ledger.proofs.FirstLemmas.{IsLeastFree-least_free_in, IsLeastFree-unique}
use Rattle.lpt_ledger.proofs.laws.has_one_least_free.Goals as goal

pub returns-clause-exists : goal.returns-clause-exists
returns-clause-exists c = IsLeastFree-least_free_in

pub returns-clause-unique : goal.returns-clause-unique
returns-clause-unique c = IsLeastFree-unique
