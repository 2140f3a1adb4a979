-- The lemmas say it.
use Rattle.lpt_pus.proofs.CommandLemmas.{tc_verdict-packet_of}
use Rattle.lpt_pus.proofs.TelemetryLemmas.{tm_verdict-tm_packet_of}
use Rattle.lpt_pus.proofs.laws.written_is_read.Goals as goal

pub returns-clause-command : goal.returns-clause-command
returns-clause-command c = tc_verdict-packet_of

pub returns-clause-telemetry : goal.returns-clause-telemetry
returns-clause-telemetry c = tm_verdict-tm_packet_of
