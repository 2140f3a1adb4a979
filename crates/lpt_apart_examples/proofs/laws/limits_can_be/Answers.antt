use Rattle.lpt_apart_examples.proofs.LimitRows.{configured, runs}
use Rattle.lpt_apart_examples.proofs.laws.limits_can_be.Goals as goal

pub returns : goal.returns
returns f = record { configured = configured; can = runs.can; log = runs.log }
