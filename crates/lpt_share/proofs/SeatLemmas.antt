-- The seats of a run, one more.
use Rattle.std.proofs.Common.{◌≡◌, subst, ℕ, ◌+◌, List, [], ◌∷◌, ◌++◌, length, arith}
use Rattle.lpt_share.specs.Seats.{AreSeats, IsSeat}
use Rattle.lpt_share.specs.declared.task.Seat.{Seat}

AreSeats-push : (n seat : ℕ) (seats : List Seat) (it : Seat)
    → seat ≡ n + length seats
    → AreSeats n seats
    → IsSeat seat it
    → AreSeats n (seats ++ it ∷ [])
AreSeats-push n seat [] it same so_far is =
    let here : seat ≡ n = omega (arith, same) in (subst (λ k. IsSeat k it) here is, tt)
AreSeats-push n seat (first ∷ more) it same so_far is =
    (so_far.0, AreSeats-push (n + 1) seat more it (omega (arith, same)) so_far.1 is)

-- the next seat behind those from 1 on
pub one_more : (seat : ℕ) (seats : List Seat) (it : Seat)
    → seat ≡ length seats + 1
    → AreSeats 1 seats
    → IsSeat seat it
    → AreSeats 1 (seats ++ it ∷ [])
one_more seat seats it same so_far is = AreSeats-push 1 seat seats it (omega (arith, same)) so_far is
