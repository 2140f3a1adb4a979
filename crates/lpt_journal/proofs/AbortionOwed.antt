-- What an event owes for the reception that it says was aborted, and that it pays it.
use Rattle.std.proofs.Common.{◌≡◌, ◌∙◌, ap, sym, subst, refl, ℕ, Bool, true, false, not, ◌&&◌, ◌||◌, List, [], ◌∷◌, length, Option, Some, None}
use Rattle.std.specs.List.{slice_get}
use Rattle.std.specs.Option.{is_some}
use Rattle.lpt_packet.specs.declared.direction.Direction.{Direction}
use Rattle.lpt_packet.specs.Names.{Name}
use Rattle.lpt_packet.proofs.NameLemmas.{same_name-refl}
use Rattle.lpt_events.specs.declared.config.Config.{Config}
use Rattle.lpt_events.specs.declared.side.Side.{Side}
use Rattle.lpt_events.specs.declared.side.Side.TheVariants.{Ground, Craft}
use Rattle.lpt_acts.specs.Acts.{Act, Expire, Deliver, Commit}
use Rattle.lpt_events.specs.declared.outcome.Outcome.{Outcome}
use Rattle.lpt_events.specs.declared.outcome.Outcome.TheVariants.{Broken}
use Rattle.lpt_events.specs.declared.reply.Answer.TheVariants.{Delivered}
use Rattle.lpt_events.specs.Lanes.{lane_direction, same_direction}
use Rattle.lpt_events.proofs.LaneLemmas.{same_direction-refl}
use Rattle.lpt_journal.specs.Delivery.{outcome}
use Rattle.lpt_journal.specs.Hands.{in_hand}
use Rattle.lpt_journal.specs.Senders.{current}
use Rattle.lpt_journal.proofs.HeadlineLemmas.{taken}
use Rattle.lpt_journal.proofs.OutcomeLemmas.{TellsOf, judged_tells}
use Rattle.lpt_journal.proofs.Soundness.{hand_current}
use Rattle.lpt_events.specs.declared.entry.Release.{Release}
use Rattle.lpt_journal.specs.Abortions.{Abortion, abortion_at, NothingIsKept}
use Rattle.lpt_journal.specs.Due.{given_up}
use Rattle.lpt_events.specs.Sides.{same_side, receiver_side, direction_to}
use Rattle.lpt_journal.specs.Journal.{Recorded, History}
use Rattle.lpt_journal.specs.Jobs.{boot, ticket}
use Rattle.lpt_journal.specs.Receivers.{ends, heard, has_parts, is_closed}
use Rattle.lpt_journal.specs.Releases.{released_by, released_now}
use Rattle.lpt_journal.specs.Replies.{expired_now, entry}
use Rattle.lpt_journal.specs.Refusals.{expiry_fault, refusal}
use Rattle.lpt_journal.proofs.ClosedLemmas.{open_opening}
use Rattle.lpt_journal.proofs.CommitLemmas.{commit_says}
use Rattle.lpt_journal.proofs.DueLemmas.{given_up_open}
use Rattle.lpt_journal.proofs.Events.{only_element}
use Rattle.lpt_journal.proofs.Releasing.{IsReleaseOf}
use Rattle.lpt_journal.proofs.Steps.{IsSound}
use Rattle.lpt_memory.specs.Memories.{Contents}
use Rattle.lpt_journal.proofs.TestLemmas.{one_passes, no_place}
use Rattle.lpt_packet.proofs.BoolLemmas.{not_false}

-- ---- what an entry owes for an abortion

-- the transaction of a reception that expired or was broken off
abbrev pub transaction : Abortion → Direction × Name
transaction e = (e.direction, e.name)

-- a release of this message in place of the abortion
abbrev pub as_release : Abortion → List ℕ → Release
as_release e m = record { place = e.place; of = Some (transaction e); message = m }

-- an aborted reception is of an opening, was not ended before, and nothing is released then
pub record IsAbortionOf (c : Config) (h : History) (x : Recorded) (e : Abortion) : Type 0 where
  pub place : e.place ≡ length h
  pub message : List ℕ
  pub ends_it : IsReleaseOf h x (as_release e message) (transaction e)
  pub releases_none : (k : ℕ) (r : Release) → slice_get (released_by c x h) k ≡ Some r → ⊥

receives_there : (side : Side) → same_side side (receiver_side (direction_to side)) ≡ true
receives_there Ground = refl
receives_there Craft = refl

open_still : (closed has : Bool) → (closed ≡ true → has ≡ false) → has ≡ true → closed ≡ false
open_still true has none e = let no : has ≡ false = none refl in absurd cc
open_still false has none e = refl

-- an event that can happen pays what it owes for an abortion
pub owes_abortion : (c : Config) (first : Contents) (h : History) (ev : Act)
    → IsSound c h
    → NothingIsKept c h
    → refusal c h ev ≡ None
    → (j : ℕ) (e : Abortion)
    → slice_get (abortion_at (length h) ev (entry c first h ev).reply.answer) j ≡ Some e
    → IsAbortionOf c h (entry c first h ev) e
owes_abortion c first h (Expire side which) sound none can j e f =
    go (given_up c h (direction_to side) which) refl
    (not_false (is_some (given_up c h (direction_to side) which))
    (one_passes (not (is_some (given_up c h (direction_to side) which))) (expiry_fault which) can))
    f where
      go : (o : Option Name)
          → given_up c h (direction_to side) which ≡ o
          → is_some o ≡ true
          → slice_get (abortion_at (length h) (Expire side which)
          (expired_now (direction_to side) o)) j ≡ Some e
          → IsAbortionOf c h (entry c first h (Expire side which)) e
      go None is t k = absurd cc
      go (Some name) is t k =
          let of : record { place = length h; direction = direction_to side; name = name } ≡ e =
          only_element _ j e k in
          let has = given_up_open c h (direction_to side) which name is in
          let opening = open_opening c h (direction_to side) name sound has in
          let was : is_closed h (direction_to side) name ≡ false =
          open_still (is_closed h (direction_to side) name)
          (has_parts (heard c h (direction_to side) name)) (none (direction_to side) name) has in
          let now : is_closed (entry c first h (Expire side which) ∷ h) (direction_to side) name
          ≡ true =
          ap (λ (o : Option Name).
          (same_side side (receiver_side (direction_to side))
          && ends (expired_now (direction_to side) o) name)
          || is_closed h (direction_to side) name) is
          ∙ (λ i. (receives_there side i && same_name-refl name i)
          || is_closed h (direction_to side) name) in
          subst (λ (y : Abortion). IsAbortionOf c h (entry c first h (Expire side which)) y) of
          (record {
            place = refl;
            message = opening.0.message;
            ends_it = record {
              opening = opening.0;
              is_current = opening.1;
              is_message = refl;
              was_open = was;
              is_ended = now;
            };
            releases_none = λ m r n. no_place m r n;
          })
owes_abortion c first h (Deliver l) sound none can j e f = go (outcome c h l) refl f where
  d : Direction
  d = lane_direction l

  go : (o : Outcome)
      → outcome c h l ≡ o
      → slice_get (abortion_at (length h) (Deliver l) (Delivered o)) j ≡ Some e
      → IsAbortionOf c h (entry c first h (Deliver l)) e
  go (Broken name reason) is k =
      let of : record { place = length h; direction = d; name = name } ≡ e = only_element _ j e k in
      let t =
      subst (λ o. TellsOf c h d (in_hand c h l) o) is (judged_tells c h d (in_hand c h l)) in
      let n = taken c h l t.0 t.1 in
      let part = hand_current c h l n.0 t.0 sound n.1 t.1 in
      let named : name ≡ t.0.name = t.2.same_name in
      let now : is_closed (entry c first h (Deliver l) ∷ h) d name ≡ true =
      ap (λ (o : Outcome). (same_direction d d && ends (Delivered o) name) || is_closed h d name) is
      ∙ (λ i. (same_direction-refl d i && same_name-refl name i) || is_closed h d name) in
      let nothing : released_by c (entry c first h (Deliver l)) h ≡ [] =
      ap (λ (o : Outcome). released_now (length h) d (Delivered o) (heard c h d) (in_hand c h l)) is in
      subst (λ (y : Abortion). IsAbortionOf c h (entry c first h (Deliver l)) y) of (record {
        place = refl;
        message = part.opening.message;
        ends_it = record {
          opening = part.opening;
          is_current = ap (current h d) named ∙ part.is_current;
          is_message = refl;
          was_open = ap (is_closed h d) named ∙ t.2.was_open;
          is_ended = now;
        };
        releases_none = λ m r k. no_place m r (ap (λ rs. slice_get rs m) (sym nothing) ∙ k);
      })
  go o is k = absurd (no_place j e k)
owes_abortion c first h (Commit w) sound none can j e f =
    absurd (commit_says (λ a. ¬ (slice_get (abortion_at (length h) (Commit w) a) j ≡ Some e)) (boot h Craft)
    (ticket c h w) (λ b n. no_place j e) (λ b n. no_place j e) f)
owes_abortion c first h ev sound none can j e f = absurd (no_place j e f)
