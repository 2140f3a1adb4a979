-- The first four octets are the two words of a header, one behind the other. It is written out so
-- that a wrong body is refused at once.
use Rattle.std.proofs.Common.{◌∙◌, ◌++◌, arith}
use Rattle.lpt_packet.specs.Numbers.{be}
use Rattle.lpt_packet.specs.Packets.{spelling}
use Rattle.lpt_pus.proofs.LongLemmas.{be-joined}
use Rattle.lpt_c.proofs.commands.request_of.Goals as goal

pub returns : goal.returns
unfolding spelling
returns c body =
    be-joined c.from.result c.from-2.result (omega arith) (omega arith)
    ∙ (λ i. be (c.from.ensures i) 2 ++ be (c.from-2.ensures i) 2)
