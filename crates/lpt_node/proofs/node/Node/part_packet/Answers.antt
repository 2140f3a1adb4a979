-- The body of a part is short.
use Rattle.std.proofs.Common.{ap, length, arith, length-append}
use Rattle.lpt_part.specs.Parts.{piece}
use Rattle.lpt_node.proofs.BodyLemmas.{length-body_of}
use Rattle.lpt_node.proofs.node.Node.part_packet.Goals as goal

pub tc_pieces-requires : goal.tc_pieces-requires
tc_pieces-requires c =
    omega (arith, ap length c.header-header.ensures, length-append c.header-header.result c.args.part.now.octets.now, length-body_of (piece c.args.part.now))

pub tm_pieces-requires : goal.tm_pieces-requires
tm_pieces-requires c =
    omega (arith, ap length c.header-header.ensures, length-append c.header-header.result c.args.part.now.octets.now, length-body_of (piece c.args.part.now))
