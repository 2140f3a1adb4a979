-- What a call through the lock answers, and what the seat's log has then.
use Rattle.std.specs.Prelude.{◌≡◌, ◌⊎◌, ◌≤◌, ◌<◌, ◌+◌, ℕ, [], ◌∷◌, ◌++◌, length, Option, None}
use Rattle.lpt_events.specs.declared.event.Event.{Event}
use Rattle.lpt_events.specs.declared.fault.StepFault.{StepFault}
use Rattle.lpt_events.specs.declared.reply.Reply.{Reply}
use Rattle.lpt_journal.specs.Events.{reply}
use Rattle.lpt_world.specs.Worlds.{Shown, RefusedBy, history, refusal_at}
use Rattle.lpt_share.specs.Entering.{IsLegal}
use Rattle.lpt_share.specs.Origins.{GoesOn}
use Rattle.lpt_share.specs.declared.call.CallFault.{CallFault}
use Rattle.lpt_share.specs.declared.call.CallFault.TheVariants as calls
use Rattle.lpt_share.specs.declared.call.Done.{Done}
use Rattle.lpt_events.specs.declared.log.SeatLog.{SeatLog}

-- a world with a legal journal, which goes on from the given one if one was given
abbrev pub MayBe : Option Shown → Shown → Type 0
MayBe given w = GoesOn given w × IsLegal w

-- after some such journal of that length the seat's event can happen, with this reply
abbrev pub MayAnswer : Option Shown → (place : ℕ) → (seat : ℕ) → Event → Reply → Type 0
MayAnswer given place seat e r =
    (w : Shown)
    × MayBe given w
    × (length w.journal ≡ place)
    × (refusal_at w seat e ≡ None)
    × (r ≡ reply w.config w.first (history w) e)

-- after some such journal of that length this is the first reason to refuse the seat's event, or
-- there is none and memory ran out
abbrev pub MayRefuse : Option Shown → (at : ℕ) → (seat : ℕ) → Event → StepFault → Type 0
MayRefuse given at seat e fault =
    (w : Shown)
    × MayBe given w
    × (length w.journal ≡ at)
    × RefusedBy (refusal_at w seat e) fault

-- some such journal has that length
abbrev pub MayHaveLength : Option Shown → ℕ → Type 0
MayHaveLength given n = (w : Shown) × MayBe given w × (length w.journal ≡ n)

-- the log is of the same seat and has the same calls
abbrev pub HasSameCalls : SeatLog → SeatLog → Type 0
HasSameCalls old new = (new.seat ≡ old.seat) × (new.calls.items ≡ old.calls.items)

-- so much is seen: as before, or how long the journal was then
abbrev pub IsSeen : Option Shown → (before after : ℕ) → Type 0
IsSeen given before after = (after ≡ before) ⊎ ((before ≤ after) × MayHaveLength given after)

-- the log has the same calls, and the seat may have seen the journal
abbrev pub IsLeft : Option Shown → SeatLog → SeatLog → Type 0
IsLeft given old new = HasSameCalls old new × IsSeen given old.seen new.seen

-- the log has one call more, behind all others, at a place that the seat hadn't seen yet
abbrev pub IsDone : Option Shown → SeatLog → SeatLog → Event → Done → Type 0
IsDone given old new e done =
    (new.seat ≡ old.seat)
    × (new.calls.items
    ≡ old.calls.items ++ record { place = done.place; event = e; reply = done.reply } ∷ [])
    × (old.seen ≤ done.place)
    × (new.seen ≡ done.place + 1)
    × MayAnswer given done.place old.seat e done.reply

-- The log has the same calls, and the event comes back. A refusal tells how long the journal was,
-- and that is seen; a torn journal is shorter than what the seat had seen.
abbrev pub IsCallFault : Option Shown → SeatLog → SeatLog → Event → CallFault → Type 0
IsCallFault given old new e (calls.Refused r) =
    HasSameCalls old new
    × (r.event ≡ e)
    × (old.seen ≤ r.at)
    × (new.seen ≡ r.at)
    × MayRefuse given r.at old.seat e r.fault
IsCallFault given old new e (calls.Torn length event) =
    HasSameCalls old new
    × (new.seen ≡ old.seen)
    × (event ≡ e)
    × (length < old.seen)
    × MayHaveLength given length
IsCallFault given old new e (calls.Memory event) =
    HasSameCalls old new × (new.seen ≡ old.seen) × (event ≡ e)
