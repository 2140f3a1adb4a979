-- The rows say it.
use Rattle.lpt_apart_examples.proofs.ResumedRows.{passes, runs}
use Rattle.lpt_apart_examples.proofs.laws.limits_change_at_a_reading.Goals as goal

pub returns : goal.returns
returns f = record { configured = passes.configured; can = runs.can; log = runs.log }
