-- The seats so far are numbered from 1 on, and the next one has the next number.
use Rattle.std.proofs.Common.{◌≡◌, ◌+◌, length}
use Rattle.lpt_share.specs.Seats.{AreSeats}
use Rattle.lpt_share.proofs.first.seats.Given as goal

abbrev pub invariant-loop-seat : goal.invariant-loop-seat
invariant-loop-seat l = (l.seat ≡ length l.all.items + 1) × AreSeats 1 l.all.items
