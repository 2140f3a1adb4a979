-- The lemma says it.
use Rattle.lpt_verify.proofs.ReportLemmas.{all_reports-names}
use Rattle.lpt_verify.proofs.laws.written_is_read.Goals as goal

pub returns : goal.returns
returns c = all_reports-names
