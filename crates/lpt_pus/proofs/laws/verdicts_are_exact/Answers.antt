-- The lemmas say it.
use Rattle.lpt_pus.proofs.CommandLemmas.{tc_verdict-found, tc_verdict-again}
use Rattle.lpt_pus.proofs.TelemetryLemmas.{tm_verdict-found, tm_verdict-again}
use Rattle.lpt_pus.proofs.laws.verdicts_are_exact.Goals as goal

pub returns-clause-command : goal.returns-clause-command
returns-clause-command c = λ f read r o. (tc_verdict-found f read r o, tc_verdict-again f read)

pub returns-clause-telemetry : goal.returns-clause-telemetry
returns-clause-telemetry c = λ f read r o. (tm_verdict-found f read r o, tm_verdict-again f read)
