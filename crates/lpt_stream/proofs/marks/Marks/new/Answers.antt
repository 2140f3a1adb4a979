-- Of nothing that is kept all is right.
use Rattle.lpt_stream.proofs.MarkLemmas.{marks-none, before_none}
use Rattle.lpt_stream.proofs.marks.Marks.new.Goals as goal

pub returns : goal.returns
returns c = λ room octets. record { are = marks-none room octets; before = before_none octets }
