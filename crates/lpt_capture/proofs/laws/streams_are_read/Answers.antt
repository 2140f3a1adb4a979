use Rattle.lpt_capture.proofs.LawLemmas.{stream_read}
use Rattle.lpt_capture.proofs.laws.streams_are_read.Goals as goal

pub returns : goal.returns
returns c = stream_read
