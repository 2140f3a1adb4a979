-- The body is short.
use Rattle.std.proofs.Common.{ap, length, arith}
use Rattle.lpt_node.proofs.BodyLemmas.{length-abort_body}
use Rattle.lpt_node.proofs.making.abort_report.Goals as goal

pub tm_octets-requires : goal.tm_octets-requires
tm_octets-requires c =
    omega (arith, ap length c.abort_octets-body.ensures, length-abort_body c.args.name.id c.args.reason)
