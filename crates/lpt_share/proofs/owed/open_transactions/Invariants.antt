-- What was found, with what the rest owes, is all.
use Rattle.std.proofs.Common.{◌≡◌, ◌++◌, length}
use Rattle.lpt_world.specs.Worlds.{history}
use Rattle.lpt_share.specs.Finished.{open_ones, owed_of}
use Rattle.lpt_share.proofs.owed.open_transactions.Given as goal

abbrev pub invariant-loop-opening : goal.invariant-loop-opening
invariant-loop-opening l =
    l.owed.items ++ open_ones (history l.world) l.rest ≡ owed_of l.world

abbrev pub decreases-loop-opening : goal.decreases-loop-opening
decreases-loop-opening l = length l.rest
