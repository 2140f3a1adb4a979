-- The lemmas say it.
use Rattle.lpt_pus.proofs.CommandLemmas.{length-spelling_tc}
use Rattle.lpt_pus.proofs.TelemetryLemmas.{length-spelling_tm}
use Rattle.lpt_pus.proofs.laws.lengths_add_up.Goals as goal

pub returns-clause-command : goal.returns-clause-command
returns-clause-command c = length-spelling_tc

pub returns-clause-telemetry : goal.returns-clause-telemetry
returns-clause-telemetry c = length-spelling_tm
