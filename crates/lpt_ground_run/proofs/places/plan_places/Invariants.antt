-- The requests so far are those of the octets so far.
use Rattle.std.proofs.Common.{take}
use Rattle.lpt_ground_run.specs.Errands.{AreAsked}
use Rattle.lpt_ground_run.proofs.places.plan_places.Given as goal

abbrev pub invariant-loop-one : goal.invariant-loop-one
invariant-loop-one l = AreAsked l.heads 0 (take l.one-index l.places) l.areas l.asked.items
