-- The packet, the message in it and the body are read.
use Rattle.lpt_carried.specs.Carried.{kind_to}
use Rattle.lpt_layout_join.proofs.MadeLemmas.{made-is}
use Rattle.lpt_layout_join.proofs.laws.made_is_carried.Goals as goal

pub returns : goal.returns
returns c r n p k m s split some within known fits head short apid service subtype user body =
    made-is r n p k m s split some within known fits head
    (c.written_is_read.ensures.packet r.layout (kind_to r.direction) s head short)
    apid service subtype user body
