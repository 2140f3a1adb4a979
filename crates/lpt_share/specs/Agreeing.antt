-- The seats' logs agree with a journal: seat by seat, its entries are the logs' calls.
use Rattle.std.specs.Prelude.{◌≡◌, ℕ, ◌+◌, ◌≤◌, ◌==◌, Bool, true, false, ◌||◌, if◌then◌else◌, List, [], ◌∷◌, length, drop, ⊤}
use Rattle.lpt_events.specs.declared.entry.Entry.{Entry}
use Rattle.lpt_world.specs.Worlds.{Shown}
use Rattle.lpt_events.specs.declared.log.Call.{Call}
use Rattle.lpt_events.specs.declared.log.SeatLog.{SeatLog}

-- an entry at a place, as its seat's log has it
abbrev pub call_at : ℕ → Entry → Call
call_at place x = record { place = place; event = x.event; reply = x.reply }

-- the seat's calls among entries, the first of which has this place
abbrev pub calls_of : (seat : ℕ) → (place : ℕ) → List Entry → List Call
calls_of seat place [] = []
calls_of seat place (x ∷ xs) =
    if x.seat == seat then call_at place x ∷ calls_of seat (place + 1) xs
    else calls_of seat (place + 1) xs

-- whether one of the logs is of the seat
abbrev pub has_seat : ℕ → List SeatLog → Bool
has_seat seat [] = false
has_seat seat (log ∷ logs) = (log.seat == seat) || has_seat seat logs

-- no two logs are of one seat
abbrev pub AreApart : List SeatLog → Type 0
AreApart [] = ⊤
AreApart (log ∷ logs) = (has_seat log.seat logs ≡ false) × AreApart logs

-- each entry is of a seat that has a log
abbrev pub AreSeated : List Entry → List SeatLog → Type 0
AreSeated [] logs = ⊤
AreSeated (x ∷ xs) logs = (has_seat x.seat logs ≡ true) × AreSeated xs logs

-- each log has its seat's calls, each once and in order; the first entry has this place
abbrev pub AreLogged : ℕ → List Entry → List SeatLog → Type 0
AreLogged place xs [] = ⊤
AreLogged place xs (log ∷ logs) =
    (log.calls.items ≡ calls_of log.seat place xs) × AreLogged place xs logs

-- from that place on the journal's entries are the calls of these logs of distinct seats
abbrev pub Agree : Shown → ℕ → List SeatLog → Type 0
Agree w from logs =
    (from ≤ length w.journal)
    × AreApart logs
    × AreSeated (drop from w.journal) logs
    × AreLogged from (drop from w.journal) logs
