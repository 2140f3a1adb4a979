-- What a turn adds to its seat's log: calls of its own events, in their order, each of which was
-- done.
use Rattle.std.specs.Prelude.{◌≡◌, ◌≤◌, ◌<◌, ◌+◌, ℕ, List, [], ◌∷◌, ◌++◌, Option, Some, None, Result, Ok, Err, ⊤}
use Rattle.lpt_packet.specs.declared.direction.Direction.{Direction}
use Rattle.lpt_packet.specs.Names.{Name}
use Rattle.lpt_events.specs.declared.event.Event.{Event}
use Rattle.lpt_events.specs.declared.event.Event.TheVariants.{Send, Finish, Expire, Apply}
use Rattle.lpt_events.specs.declared.fault.StepFault.{StepFault}
use Rattle.lpt_events.specs.declared.fault.StepFault.TheVariants as steps
use Rattle.lpt_share.specs.Calls.{IsLeft, IsSeen, MayAnswer, MayHaveLength}
use Rattle.lpt_share.specs.declared.call.CallFault.{CallFault}
use Rattle.lpt_share.specs.declared.call.CallFault.TheVariants as calls
use Rattle.lpt_share.specs.declared.fault.ShareFault.{ShareFault}
use Rattle.lpt_share.specs.declared.fault.ShareFault.TheVariants as shares
use Rattle.lpt_share.specs.declared.turns.Again.{Again}
use Rattle.lpt_share.specs.declared.turns.Again.TheVariants as agains
use Rattle.lpt_events.specs.declared.log.Call.{Call}
use Rattle.lpt_events.specs.declared.log.SeatLog.{SeatLog}
use Rattle.lpt_world.specs.Worlds.{Shown}

-- the calls are of the first of these events, in this order
abbrev pub Begin : List Event → List Call → Type 0
Begin es [] = ⊤
Begin [] (call ∷ calls) = ⊥
Begin (e ∷ es) (call ∷ calls) = (call.event ≡ e) × Begin es calls

-- the calls are of these events in this order, and then of one event again and again, as far as
-- they go
abbrev pub Follow : List Event → Event → List Call → Type 0
Follow es again [] = ⊤
Follow [] again (call ∷ calls) = (call.event ≡ again) × Follow [] again calls
Follow (e ∷ es) again (call ∷ calls) = (call.event ≡ e) × Follow es again calls

-- The calls were answered one after the other by legal journals, which go on from the given one,
-- each at a place that the seat, which had seen so much before, hadn't seen yet; and so much was
-- seen after.
abbrev pub AreDone : Option Shown → (seat seen : ℕ) → List Call → (after : ℕ) → Type 0
AreDone given seat seen [] after = IsSeen given seen after
AreDone given seat seen (call ∷ calls) after =
    (seen ≤ call.place)
    × MayAnswer given call.place seat call.event call.reply
    × AreDone given seat (call.place + 1) calls after

-- the calls that the new log has more than the old one meet the fact, and were done
abbrev pub Adds : Option Shown → (List Call → Type 0) → SeatLog → SeatLog → Type 0
Adds given P old new =
    (xs : List Call)
    × (new.seat ≡ old.seat)
    × (new.calls.items ≡ old.calls.items ++ xs)
    × P xs
    × AreDone given old.seat old.seen xs new.seen

-- A turn ended before its time: the journal was shorter than its seat had seen it, or memory ran
-- out.
abbrev pub IsTurnFault : Option Shown → (seen : ℕ) → ShareFault → Type 0
IsTurnFault given seen shares.Torn = (n : ℕ) × (n < seen) × MayHaveLength given n
IsTurnFault given seen shares.Memory = ⊤
IsTurnFault given seen shares.NoThread = ⊥

-- what a sender's turn asks for: a part, or the end of the transaction
abbrev pub sender_event : Direction → Name → Option ℕ → Event
sender_event d name (Some k) = Send d name k
sender_event d name None = Finish d name

-- what is asked for again and again
abbrev pub again_event : Again → Event
again_event (agains.Expire node) = Expire node
again_event agains.Apply = Apply

-- the log has one call more if the event was accepted, which was done; and otherwise the same calls
abbrev pub IsAsked : {A : Type 0} → Option Shown → Event → SeatLog → SeatLog
    → Result (Option A) ShareFault → Type 0
IsAsked given e old new (Ok (Some answer)) =
    (call : Call)
    × (new.seat ≡ old.seat)
    × (call.event ≡ e)
    × (new.calls.items ≡ old.calls.items ++ call ∷ [])
    × (old.seen ≤ call.place)
    × MayAnswer given call.place old.seat call.event call.reply
    × (new.seen ≡ call.place + 1)
IsAsked given e old new (Ok None) = IsLeft given old new
IsAsked given e old new (Err fault) = IsLeft given old new × IsTurnFault given new.seen fault

-- how a turn ends at a call that was refused for this reason: with no answer, and only out of
-- memory is a fault
abbrev pub ended_by : {A : Type 0} → StepFault → Result (Option A) ShareFault
ended_by steps.Memory = Err shares.Memory
ended_by _ = Ok None

-- how a turn ends at a call that did nothing
abbrev pub failed_by : {A : Type 0} → CallFault → Result (Option A) ShareFault
failed_by (calls.Refused r) = ended_by r.fault
failed_by (calls.Torn length event) = Err shares.Torn
failed_by (calls.Memory event) = Err shares.Memory
