-- The packet has thirteen octets besides the body.
use Rattle.std.proofs.Common.{◌≤◌, length, arith, rules}
use Rattle.lpt_packet.specs.Packets.{spelling}
use Rattle.lpt_pus.specs.Commands.{command, packet_of}
use Rattle.lpt_pus.proofs.CommandLemmas.{length-spelling_tc}
use Rattle.lpt_pus.proofs.writing.write_tc.Goals as goal

pub returns-then-body-gt-LONGEST_TC_BODY : goal.returns-then-body-gt-LONGEST_TC_BODY
returns-then-body-gt-LONGEST_TC_BODY c =
    let written = command c.args.head.now c.args.body.now in
    omega (arith, length-spelling_tc written)

pub returns : goal.returns
returns c =
    let written = command c.args.head.now c.args.body.now in
    let fits : length (spelling (packet_of written)) ≤ 65542 =
    omega (arith, length-spelling_tc written) in
    search rules
