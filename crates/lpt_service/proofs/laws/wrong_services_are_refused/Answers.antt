-- The lemma says it.
use Rattle.lpt_service.proofs.WrongLemmas.{none_is_wrong}
use Rattle.lpt_service.proofs.laws.wrong_services_are_refused.Goals as goal

pub returns : goal.returns
returns c = none_is_wrong
