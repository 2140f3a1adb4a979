-- The lemma says it.
use Rattle.lpt_verify.proofs.ReadingLemmas.{report_in-IsReport}
use Rattle.lpt_verify.proofs.laws.read_is_spelled.Goals as goal

pub returns : goal.returns
returns c = report_in-IsReport
