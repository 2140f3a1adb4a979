-- What is written is seen again, and read again from there.
use Rattle.lpt_packet.proofs.SightLemmas.{seen_again}
use Rattle.lpt_pus.specs.Commands.{packet_of}
use Rattle.lpt_pus.specs.Telemetry.{as_written, tm_packet_of}
use Rattle.lpt_pus.proofs.CommandLemmas.{command_in-spelling, InRange-packet_of}
use Rattle.lpt_pus.proofs.TelemetryLemmas.{telemetry_in-spelling, InRange-tm_packet_of, TelemetryFits-as_written}
use Rattle.lpt_pus.proofs.laws.octets_are_read_again.Goals as goal

pub returns-clause-command : goal.returns-clause-command
returns-clause-command c = λ read fits. command_in-spelling read fits (seen_again (packet_of read) (InRange-packet_of read fits))

pub returns-clause-telemetry : goal.returns-clause-telemetry
returns-clause-telemetry c = λ read fits. telemetry_in-spelling read fits (seen_again (tm_packet_of read) (InRange-tm_packet_of read fits))

pub returns-clause-written : goal.returns-clause-written
returns-clause-written c = λ read fits.
    let t = as_written read in
    let zero = TelemetryFits-as_written read fits in
    telemetry_in-spelling t zero (seen_again (tm_packet_of t) (InRange-tm_packet_of t zero))
