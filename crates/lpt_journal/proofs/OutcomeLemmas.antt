-- What an outcome tells of the packet that was delivered.
use Rattle.std.proofs.Common.{◌≡◌, ◌⊎◌, inl, inr, refl, ℕ, nat_le, Bool, true, false, not, ◌&&◌, length, if◌then◌else◌}
use Rattle.std.specs.Option.{is_some}
use Rattle.std.specs.FinMap as map
use Rattle.lpt_packet.specs.declared.direction.Direction.{Direction}
use Rattle.lpt_packet.specs.Names.{Name}
use Rattle.lpt_part.specs.declared.reason.Reason.{Reason}
use Rattle.lpt_part.specs.declared.reason.Reason.TheVariants.{Conflict, Discontinuity}
use Rattle.lpt_reception.specs.Received.{contradicts, is_gap, is_whole, spelled}
use Rattle.lpt_events.specs.NamedParts.{NamedPart}
use Rattle.lpt_events.specs.declared.config.Config.{Config}
use Rattle.lpt_events.specs.declared.outcome.Outcome.{Outcome}
use Rattle.lpt_events.specs.declared.outcome.Outcome.TheVariants.{Kept, Again, Released, Broken, Ignored}
use Rattle.lpt_events.specs.declared.outcome.Why.TheVariants.{Unreadable, Idle, ForeignApid, BadPart, Closed, NoRoom}
use Rattle.lpt_events.specs.Arrivals.{Arrival, NotRead, AnIdle, Foreign, ARequest, AReport, NoPart, APart, AnAbort}
use Rattle.lpt_journal.specs.Journal.{History}
use Rattle.lpt_events.specs.Sides.{receiver_side}
use Rattle.lpt_journal.specs.Receivers.{as_kept, with_piece, heard, has_parts, reception_count, is_closed, limits}
use Rattle.lpt_journal.specs.Delivery.{arrival_judged}

-- ---- what an outcome tells

-- the outcome of a part, by its tests
abbrev pub chosen : (closed full clash again gap whole : Bool) → NamedPart → (len : ℕ) → Outcome
chosen closed full clash again gap whole q len =
    if closed then Ignored Closed
    else if full then Ignored NoRoom
    else if clash then Broken q.name Conflict
    else if again then Again q.name q.number
    else if gap then Broken q.name Discontinuity
    else if whole then Released q.name len
    else Kept q.name q.number

-- a part that was released: its transaction was not closed, and with it all parts are there
pub record IsReleased (closed whole : Bool) (q : NamedPart) (i : Name) : Type 0 where
  pub same_name : i ≡ q.name
  pub was_open : closed ≡ false
  pub is_all : whole ≡ true

-- a part that broke its reception off: its transaction was not closed, and it contradicted what was
-- kept or wasn't the next one
pub record IsBroken (closed clash gap : Bool) (q : NamedPart) (i : Name) (reason : Reason) : Type 0 where
  pub same_name : i ≡ q.name
  pub was_open : closed ≡ false
  pub why : ((clash ≡ true) × (reason ≡ Conflict)) ⊎ ((gap ≡ true) × (reason ≡ Discontinuity))

abbrev Tells : (closed clash gap whole : Bool) → NamedPart → Outcome → Type 0
Tells closed clash gap whole q (Kept i k) = i ≡ q.name
Tells closed clash gap whole q (Released i len) = IsReleased closed whole q i
Tells closed clash gap whole q (Broken i reason) = IsBroken closed clash gap q i reason
Tells closed clash gap whole q (Ignored Unreadable) = ⊥
Tells closed clash gap whole q (Ignored Idle) = ⊥
Tells closed clash gap whole q (Ignored ForeignApid) = ⊥
Tells closed clash gap whole q (Ignored BadPart) = ⊥
Tells closed clash gap whole q _ = Unit {0}

chosen_tells : (closed full clash again gap whole : Bool) (q : NamedPart) (len : ℕ)
    → Tells closed clash gap whole q (chosen closed full clash again gap whole q len)
chosen_tells true full clash again gap whole q len = tt
chosen_tells false true clash again gap whole q len = tt
chosen_tells false false true again gap whole q len =
    record { same_name = refl; was_open = refl; why = inl (refl, refl) }
chosen_tells false false false true gap whole q len = tt
chosen_tells false false false false true whole q len =
    record { same_name = refl; was_open = refl; why = inr (refl, refl) }
chosen_tells false false false false false true q len =
    record { same_name = refl; was_open = refl; is_all = refl }
chosen_tells false false false false false false q len = refl

-- what the outcome of what arrives tells of it
abbrev pub TellsOf : Config → History → Direction → Arrival → Outcome → Type 0
TellsOf c h d a (Kept i k) = (q : NamedPart) × (a ≡ APart q) × (i ≡ q.name)
TellsOf c h d a (Released i len) =
    (q : NamedPart) × (a ≡ APart q) × IsReleased (is_closed h d q.name)
    (is_whole (with_piece (heard c h d q.name) q)) q i
TellsOf c h d a (Broken i reason) =
    (q : NamedPart) × (a ≡ APart q)
    × IsBroken (is_closed h d q.name) (contradicts (heard c h d q.name) q.number (as_kept q))
    (is_gap c.mode (heard c h d q.name) q.number) q i reason
TellsOf c h d a (Ignored Unreadable) = a ≡ NotRead
TellsOf c h d a (Ignored Idle) = a ≡ AnIdle
TellsOf c h d a (Ignored ForeignApid) = a ≡ Foreign
TellsOf c h d a (Ignored BadPart) = a ≡ NoPart
TellsOf c h d a _ = Unit {0}

part_tells : (c : Config) (h : History) (d : Direction) (q : NamedPart) (o : Outcome)
    → Tells (is_closed h d q.name) (contradicts (heard c h d q.name) q.number (as_kept q))
    (is_gap c.mode (heard c h d q.name) q.number)
    (is_whole (with_piece (heard c h d q.name) q)) q o
    → TellsOf c h d (APart q) o
part_tells c h d q (Kept i k) t = (q, refl, t)
part_tells c h d q (Released i len) t = (q, refl, t)
part_tells c h d q (Broken i reason) t = (q, refl, t)
part_tells c h d q (Ignored Unreadable) t = absurd t
part_tells c h d q (Ignored Idle) t = absurd t
part_tells c h d q (Ignored ForeignApid) t = absurd t
part_tells c h d q (Ignored BadPart) t = absurd t
part_tells c h d q o t = tt

-- an outcome tells what arrived
pub judged_tells : (c : Config) (h : History) (d : Direction) (a : Arrival)
    → TellsOf c h d a (arrival_judged c h d a)
judged_tells c h d NotRead = refl
judged_tells c h d AnIdle = refl
judged_tells c h d Foreign = refl
judged_tells c h d (ARequest b) = tt
judged_tells c h d (AReport service subtype) = tt
judged_tells c h d NoPart = refl
judged_tells c h d (AnAbort name reason) = tt
judged_tells c h d (APart q) =
    let s = heard c h d q.name in
    part_tells c h d q (arrival_judged c h d (APart q))
    (chosen_tells (is_closed h d q.name)
    (not (has_parts s) && nat_le (limits c h (receiver_side d)).receptions (reception_count c h d))
    (contradicts s q.number (as_kept q)) (is_some (map.get s q.number)) (is_gap c.mode s q.number)
    (is_whole (with_piece s q)) q
    (length (spelled (with_piece s q))))
