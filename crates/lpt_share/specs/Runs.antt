-- The logs of a run of seats 1 to 10.
use Rattle.std.specs.Prelude.{◌≡◌, ◌≤◌, ◌+◌, ℕ, List, [], ◌∷◌}
use Rattle.lpt_events.specs.declared.log.SeatLog.{SeatLog}

-- the logs are those of the seats from this one to 10, in order
abbrev pub IsInOrder : ℕ → List SeatLog → Type 0
IsInOrder seat [] = seat ≡ 11
IsInOrder seat (log ∷ logs) = (seat ≤ 10) × (log.seat ≡ seat) × IsInOrder (seat + 1) logs
