-- So many events were accepted.
use Rattle.lpt_world.proofs.RunLemmas.{IsRun}
use Rattle.lpt_world.proofs.world.World.run.Given as goal

abbrev pub invariant-loop-done : goal.invariant-loop-done
invariant-loop-done l = IsRun l.fn.self l.self l.fn.events l.done
