-- The lemma says it.
use Rattle.lpt_service.proofs.PromiseLemmas.{runs_keep_the_promise}
use Rattle.lpt_service.proofs.laws.runs_keep_the_promise.Goals as goal

pub returns : goal.returns
returns c = runs_keep_the_promise
