-- The rows say it.
use Rattle.lpt_apart_examples.proofs.ReportRows.{passes, runs}
use Rattle.lpt_apart_examples.proofs.laws.large_reports_go_down.Goals as goal

pub returns : goal.returns
returns f = record { configured = passes.configured; can = runs.can; log = runs.log }
