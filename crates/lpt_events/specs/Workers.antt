-- The workers.
use Rattle.std.specs.Prelude.{Bool, true, false}
use Rattle.lpt_events.specs.declared.worker.Worker.{Worker}
use Rattle.lpt_events.specs.declared.worker.Worker.TheVariants.{W1, W2}

-- whether two workers are the same
abbrev pub same_worker : Worker → Worker → Bool
same_worker W1 W1 = true
same_worker W1 W2 = false
same_worker W2 W1 = false
same_worker W2 W2 = true
