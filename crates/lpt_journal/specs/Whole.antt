-- What came whole: which parts of a transaction came, and that all of them are its message's
-- release.
use Rattle.std.specs.Prelude.{◌≡◌, ℕ, ◌≤◌, ◌==◌, Bool, true, false, not, ◌&&◌, ◌||◌, if◌then◌else◌, List, [], ◌∷◌, length, slice_get, Some, is_some}
use Rattle.std.specs.List.{find}
use Rattle.lpt_packet.specs.declared.direction.Direction.{Direction}
use Rattle.lpt_packet.specs.Names.{Name, same_name}
use Rattle.lpt_part.specs.Splitting.{part_count}
use Rattle.lpt_memory.specs.Memories.{Contents}
use Rattle.lpt_events.specs.Arrivals.{Arrival, APart}
use Rattle.lpt_events.specs.Configs.{IsConfig}
use Rattle.lpt_events.specs.Lanes.{lane_direction, same_direction}
use Rattle.lpt_events.specs.Sides.{same_side, receiver_side}
use Rattle.lpt_events.specs.declared.config.Config.{Config}
use Rattle.lpt_events.specs.declared.entry.Opening.{Opening}
use Rattle.lpt_events.specs.declared.entry.Release.{Release}
use Rattle.lpt_acts.specs.Acts.{Act, Deliver, Restart}
use Rattle.lpt_events.specs.declared.lane.Lane.{Lane}
use Rattle.lpt_events.specs.declared.outcome.Outcome.TheVariants.{Ignored}
use Rattle.lpt_events.specs.declared.outcome.Why.TheVariants.{NoRoom}
use Rattle.lpt_events.specs.declared.reply.Answer.{Answer}
use Rattle.lpt_events.specs.declared.reply.Answer.TheVariants.{Delivered}
use Rattle.lpt_journal.specs.Abortions.{Abortion, abortions, opening_of_abortion}
use Rattle.lpt_journal.specs.Hands.{in_hand}
use Rattle.lpt_journal.specs.Headline.{opening_of}
use Rattle.lpt_journal.specs.Journal.{History}
use Rattle.lpt_journal.specs.Legal.{Legal}
use Rattle.lpt_journal.specs.Releases.{releases}
use Rattle.lpt_journal.specs.Replies.{history_after}
use Rattle.lpt_journal.specs.Senders.{is_opening_of, current}

-- whether a delivery brings part k of this name; one for which there is no room brings nothing
abbrev pub brings : Arrival → Answer → Name → (k : ℕ) → Bool
brings (APart q) (Delivered (Ignored NoRoom)) name k = false
brings (APart q) answer name k = same_name q.name name && (q.number == k)
brings _ answer name k = false

-- whether part k came to the receiver after an event; what a restarted receiver had is lost
abbrev pub came_after : Act → Answer → (Lane → Arrival) → Direction → Name → (k : ℕ) → Bool → Bool
came_after (Deliver l) answer arrived d name k before =
    (same_direction (lane_direction l) d && brings (arrived l) answer name k) || before
came_after (Restart side) answer arrived d name k before =
    not (same_side side (receiver_side d)) && before
came_after _ answer arrived d name k before = before

-- whether part k of a transaction came since it was opened, and since its receiver was restarted
abbrev pub came : Config → History → Direction → Name → (k : ℕ) → Bool
came c [] d name k = false
came c (x ∷ h) d name k =
    if is_some (find (is_opening_of d name) x.opens) then false
    else came_after x.event x.reply.answer (in_hand c h) d name k (came c h d name k)

-- what was opened was released, byte for byte
pub record WasReleased (c : Config) (h : History) (o : Opening) : Type 0 where
  pub number : ℕ
  pub release : Release
  pub is_there : slice_get (releases c h) number ≡ Some release
  pub is_of : opening_of h release ≡ Some o
  pub is_message : release.message ≡ o.message

-- the reception of what was opened expired or was broken off
pub record WasAborted (h : History) (o : Opening) : Type 0 where
  pub number : ℕ
  pub abortion : Abortion
  pub is_there : slice_get (abortions h) number ≡ Some abortion
  pub is_of : opening_of_abortion h abortion ≡ Some o

-- Nothing that came whole is withheld: what was last opened under a name, and each part of which
-- came since then and since its receiver was restarted, was released, unless its reception
-- expired or was broken off.
abbrev pub WholeIsReleased : Config → History → Type 0
WholeIsReleased c h =
    (d : Direction) (name : Name) (o : Opening)
    → current h d name ≡ Some o
    → ((k : ℕ) → 1 ≤ k → k ≤ part_count (length o.message) c.part_size → came c h d name k ≡ true)
    → ¬ (WasAborted h o)
    → WasReleased c h o

-- it holds of every legal journal
abbrev pub NothingIsWithheld : Type 0
NothingIsWithheld =
    (c : Config) (first : Contents) (es : List Act)
    → IsConfig c
    → Legal c first es
    → WholeIsReleased c (history_after c first es)
