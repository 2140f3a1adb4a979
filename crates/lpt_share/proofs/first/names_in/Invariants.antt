-- What was found, with what the rest has, is all.
use Rattle.std.proofs.Common.{◌≡◌, ◌++◌, length}
use Rattle.lpt_journal.specs.Senders.{opened}
use Rattle.lpt_world.specs.Worlds.{history}
use Rattle.lpt_share.specs.Seats.{names_in}
use Rattle.lpt_share.proofs.first.names_in.Given as goal

abbrev pub invariant-loop-opening : goal.invariant-loop-opening
invariant-loop-opening l =
    l.names.items ++ names_in l.direction l.world l.rest
    ≡ names_in l.direction l.world (opened (history l.world))

abbrev pub decreases-loop-opening : goal.decreases-loop-opening
decreases-loop-opening l = length l.rest
