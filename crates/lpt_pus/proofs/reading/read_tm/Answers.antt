-- The verdict says what the packet is.
use Rattle.std.proofs.Common.{subst}
use Rattle.lpt_packet.specs.Packets.{fields}
use Rattle.lpt_pus.specs.Messages.{Gives}
use Rattle.lpt_pus.specs.Telemetry.{telemetry}
use Rattle.lpt_pus.proofs.TelemetryLemmas.{found_by_tm_verdict, tm_verdict-again}
use Rattle.lpt_pus.proofs.reading.read_tm.Goals as goal

pub returns-clause-found : goal.returns-clause-found
returns-clause-found c =
    let packet = c.args.packet.now in
    found_by_tm_verdict (λ x. telemetry x.0 x.1.now) c.first_fault_or_tm.result (fields packet)
    packet.in_range packet.octets c.first_fault_or_tm.ensures

pub returns-clause-telemetry : goal.returns-clause-telemetry
returns-clause-telemetry c read is =
    subst (Gives (λ x. telemetry x.0 x.1.now) c.first_fault_or_tm.result)
    (tm_verdict-again (fields c.args.packet.now) read is) c.first_fault_or_tm.ensures
