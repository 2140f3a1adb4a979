-- When a run of threads is whole.
use Rattle.std.specs.Prelude.{◌≡◌, ℕ, List, length, true}
use Rattle.lpt_share.specs.Agreeing.{Agree}
use Rattle.lpt_share.specs.Finished.{IsFinished}
use Rattle.lpt_share.specs.Kinds.{are_of_seats}
use Rattle.lpt_events.specs.declared.log.SeatLog.{SeatLog}
use Rattle.lpt_events.specs.declared.turns.Turns.{Turns}
use Rattle.lpt_world.specs.Worlds.{Promised, Shown}
use Rattle.lpt_share.specs.Runs.{IsInOrder}
use Rattle.lpt_share.specs.Settled.{IsSettled}
use Rattle.lpt_share.specs.declared.owed.Owed.{Owed}
use Rattle.lpt_share.specs.Entering.{IsLegal}
use Rattle.lpt_share.specs.Origins.{Continues}

-- The logs of a run that began at this place are those of seats 1 to 10, of their own events, and
-- agree with the journal; and nothing is left to do of what was owed or came since, but for what
-- seats left whose logs are full.
abbrev pub IsWholeRun : Turns → (from : ℕ) → List Owed → Shown → List SeatLog → Type 0
IsWholeRun turns from owed w logs =
    (IsInOrder 1 logs × (are_of_seats logs ≡ true) × Agree w from logs)
    × IsSettled turns from owed w logs

-- a run of threads from the given world left this one, with these logs
abbrev pub IsRunWith : Turns → (given w : Shown) → List SeatLog → Type 0
IsRunWith turns given w logs =
    Continues given w
    × IsLegal w
    × Promised w
    × IsInOrder 1 logs
    × (are_of_seats logs ≡ true)
    × Agree w (length given.journal) logs
    × IsFinished turns given w logs

-- the same with some logs
abbrev pub IsRun : Turns → (given w : Shown) → Type 0
IsRun turns given w = (logs : List SeatLog) × IsRunWith turns given w logs
