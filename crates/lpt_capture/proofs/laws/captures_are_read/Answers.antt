use Rattle.lpt_capture.proofs.LawLemmas.{capture_read}
use Rattle.lpt_capture.proofs.laws.captures_are_read.Goals as goal

pub returns : goal.returns
returns c = capture_read
