-- The lemmas say it.
use Rattle.lpt_pus.proofs.CommandLemmas.{command_in-found, command_in-again}
use Rattle.lpt_pus.proofs.TelemetryLemmas.{telemetry_in-found, telemetry_in-again}
use Rattle.lpt_pus.proofs.laws.octets_are_read_exactly.Goals as goal

pub returns-clause-command : goal.returns-clause-command
returns-clause-command c apid b read =
    (command_in-found apid b read, command_in-again apid b read)

pub returns-clause-telemetry : goal.returns-clause-telemetry
returns-clause-telemetry c apid b read =
    (telemetry_in-found apid b read, telemetry_in-again apid b read)
