-- The rest are carried exactly where all are.
use Rattle.std.proofs.Common.{length}
use Rattle.lpt_journal.specs.Senders.{opened}
use Rattle.lpt_world.specs.Worlds.{history}
use Rattle.lpt_share.specs.Settled.{AreCarriedInOrder}
use Rattle.lpt_share.proofs.finish.are_carried.Given as goal

abbrev pub invariant-loop-opening : goal.invariant-loop-opening
invariant-loop-opening l =
    (AreCarriedInOrder l.limit l.logs l.p l.from l.entries l.rest
    → AreCarriedInOrder l.limit l.logs l.world.config.part_size l.from l.entries (opened (history l.world)))
    × (AreCarriedInOrder l.limit l.logs l.world.config.part_size l.from l.entries (opened (history l.world))
    → AreCarriedInOrder l.limit l.logs l.p l.from l.entries l.rest)

abbrev pub decreases-loop-opening : goal.decreases-loop-opening
decreases-loop-opening l = length l.rest
