-- What a function that is lent the locked world does to it: one event, or nothing.
use Rattle.std.specs.Prelude.{◌≡◌, ◌⊎◌, ◌≤◌, ◌<◌, ◌+◌, ℕ, [], ◌∷◌, ◌++◌, length, Option, Some, None, Result, Ok, Err, ⊤}
use Rattle.lpt_events.specs.declared.event.Event.{Event}
use Rattle.lpt_events.specs.declared.log.SeatLog.{SeatLog}
use Rattle.lpt_events.specs.declared.reply.Reply.{Reply}
use Rattle.lpt_world.specs.Worlds.{Shown}
use Rattle.lpt_share.specs.Calls.{HasSameCalls}
use Rattle.lpt_share.specs.Entering.{Enters}
use Rattle.lpt_share.specs.declared.fault.ShareFault.{ShareFault}
use Rattle.lpt_share.specs.declared.fault.ShareFault.TheVariants.{Torn, Memory, NoThread}

-- the log has one call more, behind all others: the event at the end of this world's journal
abbrev pub IsNoted : Event → Reply → Shown → SeatLog → SeatLog → Type 0
IsNoted e r world old new =
    (old.seen ≤ length world.journal)
    × (new.seat ≡ old.seat)
    × (new.seen ≡ length world.journal + 1)
    × (new.calls.items
    ≡ old.calls.items ++ record { place = length world.journal; event = e; reply = r } ∷ [])

-- how long this world's journal is was seen
abbrev pub Sees : Shown → SeatLog → SeatLog → Type 0
Sees world old new = (old.seen ≤ length world.journal) × (new.seen ≡ length world.journal)

-- the fault comes of this world: its journal is shorter than the seat has seen it, or memory ran
-- out
abbrev pub ComesOf : Shown → (seen : ℕ) → ShareFault → Type 0
ComesOf world seen Torn = length world.journal < seen
ComesOf world seen Memory = ⊤
ComesOf world seen NoThread = ⊥

-- One event of the log's seat was entered in the world and noted at its place; or it was refused,
-- the world stays, and the log has seen its length; or there was a fault, and the world stays too.
abbrev pub DoesOne : {A : Type 0} → Event → Shown → Shown → SeatLog → SeatLog
    → Result (Option A) ShareFault → Type 0
DoesOne e world after old new (Ok (Some answer)) =
    (r : Reply) × Enters world after old.seat e r × IsNoted e r world old new
DoesOne e world after old new (Ok None) =
    (after ≡ world) × HasSameCalls old new × Sees world old new
DoesOne e world after old new (Err fault) =
    (after ≡ world)
    × HasSameCalls old new
    × ((new.seen ≡ old.seen) ⊎ Sees world old new)
    × ComesOf world new.seen fault
