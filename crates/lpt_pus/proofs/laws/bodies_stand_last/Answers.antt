-- The lemmas say it.
use Rattle.lpt_pus.proofs.CommandLemmas.{body-tc_verdict}
use Rattle.lpt_pus.proofs.TelemetryLemmas.{body-tm_verdict}
use Rattle.lpt_pus.proofs.laws.bodies_stand_last.Goals as goal

pub returns-clause-command : goal.returns-clause-command
returns-clause-command c = body-tc_verdict

pub returns-clause-telemetry : goal.returns-clause-telemetry
returns-clause-telemetry c = body-tm_verdict
