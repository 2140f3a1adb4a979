-- The packet has nineteen octets besides the body.
use Rattle.std.proofs.Common.{◌≤◌, length, arith, rules}
use Rattle.lpt_packet.specs.Packets.{spelling}
use Rattle.lpt_pus.specs.Telemetry.{telemetry, as_written, tm_packet_of}
use Rattle.lpt_pus.proofs.TelemetryLemmas.{length-spelling_tm}
use Rattle.lpt_pus.proofs.writing.write_tm.Goals as goal

pub returns-then-body-gt-LONGEST_TM_BODY : goal.returns-then-body-gt-LONGEST_TM_BODY
returns-then-body-gt-LONGEST_TM_BODY c =
    let written = as_written (telemetry c.args.head.now c.args.body.now) in
    omega (arith, length-spelling_tm written)

pub returns : goal.returns
returns c =
    let written = as_written (telemetry c.args.head.now c.args.body.now) in
    let fits : length (spelling (tm_packet_of written)) ≤ 65542 =
    omega (arith, length-spelling_tm written) in
    search rules
