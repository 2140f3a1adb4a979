-- The lemma says it.
use Rattle.lpt_requests.proofs.FailureLemmas.{failure-read}
use Rattle.lpt_requests.proofs.laws_failures.failures_name_their_request.Goals as goal

pub returns : goal.returns
returns c = failure-read
