-- The lemma says it.
use Rattle.lpt_verify.proofs.ReportLemmas.{all_reports-rise}
use Rattle.lpt_verify.proofs.laws.subtypes_rise.Goals as goal

pub returns : goal.returns
returns c = all_reports-rise
