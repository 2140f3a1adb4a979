-- A delivery pays what it owes.
use Rattle.std.proofs.Common.{◌≡◌, ◌∙◌, ap, sym, subst, refl, ℕ, ◌≤◌, Bool, true, false, inl, inr, ◌⊎◌, ◌∷◌, length, Option, Some, None, if◌then◌else◌}
use Rattle.std.specs.List.{slice_get}
use Rattle.lpt_packet.specs.declared.direction.Direction.{Direction}
use Rattle.lpt_packet.specs.Names.{Name, same_name, IsName}
use Rattle.lpt_packet.proofs.NameLemmas.{same_name-true}
use Rattle.lpt_part.specs.declared.mode.Mode.{Mode}
use Rattle.lpt_part.specs.declared.mode.Mode.TheVariants.{Any, Strict}
use Rattle.lpt_part.specs.declared.reason.Reason.{Reason}
use Rattle.lpt_part.specs.declared.reason.Reason.TheVariants.{Conflict, Discontinuity}
use Rattle.lpt_part.specs.Splitting.{part_count}
use Rattle.lpt_reception.specs.Received.{Parts, no_parts, contradicts, is_gap}
use Rattle.lpt_reception.specs.PartsOf.{IsPartOf, IsPartsOf, kept_of}
use Rattle.lpt_reception.proofs.MessageLemmas.{parts_agree}
use Rattle.lpt_events.specs.NamedParts.{NamedPart}
use Rattle.lpt_events.specs.declared.lane.Lane.{Lane}
use Rattle.lpt_events.specs.Lanes.{lane_direction, same_direction, same_lane}
use Rattle.lpt_events.specs.declared.config.Config.{Config}
use Rattle.lpt_events.specs.declared.outcome.Outcome.{Outcome}
use Rattle.lpt_events.specs.declared.outcome.Outcome.TheVariants.{Kept, Released, Broken}
use Rattle.lpt_events.specs.declared.side.Side.{Side}
use Rattle.lpt_events.specs.declared.side.Side.TheVariants.{Ground, Craft}
use Rattle.lpt_events.specs.Arrivals.{Arrival, NotRead, AnIdle, Foreign, NoPart, APart}
use Rattle.lpt_acts.specs.Acts.{Deliver}
use Rattle.lpt_events.specs.declared.reply.Answer.TheVariants.{Delivered}
use Rattle.lpt_events.specs.declared.entry.Opening.{Opening}
use Rattle.lpt_events.specs.Sides.{receiver_side}
use Rattle.lpt_events.specs.Configs.{IsConfig}
use Rattle.lpt_journal.specs.Journal.{SentPacket, History}
use Rattle.lpt_journal.specs.Link.{is_damaged}
use Rattle.lpt_journal.specs.Hands.{hand, in_hand}
use Rattle.lpt_journal.specs.Senders.{current}
use Rattle.lpt_journal.specs.Receivers.{as_kept, with_arrival, heard_now, heard}
use Rattle.lpt_journal.specs.Delivery.{arrival_judged, outcome}
use Rattle.lpt_journal.specs.Replies.{outcome_puts, entry}
use Rattle.lpt_journal.specs.Headline.{IsPartOfCurrent, kept_piece, IsSoundOutcome}
use Rattle.lpt_events.proofs.LaneLemmas.{same_direction-true}
use Rattle.lpt_journal.proofs.TestLemmas.{no_place}
use Rattle.lpt_journal.proofs.Steps.{IsAsPut, IsPut, IsSound, IsHeardNow, Owes}
use Rattle.lpt_journal.proofs.OutcomeLemmas.{TellsOf, judged_tells}
use Rattle.lpt_memory.specs.Memories.{Contents}
use Rattle.lpt_journal.proofs.ReportEvents.{report_put}
use Rattle.lpt_journal.proofs.Soundness.{in_hand_is, hand_current}

-- ---- parts of the current message agree

-- what was heard of a transaction is parts of the message last opened under its name
pub heard_parts : (c : Config) (h : History) (d : Direction) (name : Name) (o : Opening)
    → IsSound c h
    → current h d name ≡ Some o
    → IsPartsOf o.message c.part_size (heard c h d name)
heard_parts c h d name o sound e n x had = go (sound.heard d name n x had) where
  go : IsPartOfCurrent c h d (kept_piece name n x) → IsPartOf o.message c.part_size n x
  go p =
      let same : p.opening ≡ o = let now : current h d name ≡ Some p.opening = p.is_current in cc in
      record {
        some = p.from_one;
        within =
            subst (λ (u : Opening). n ≤ part_count (length u.message) c.part_size) same p.to_last;
        is = ap as_kept p.is_part ∙ ap (λ (u : Opening). kept_of u.message c.part_size n) same;
      }

-- a part in a lane's hand contradicts nothing that was heard
pub agrees : (c : Config) (h : History) (l : Lane) (n : ℕ) (q : NamedPart)
    → IsSound c h
    → hand h l ≡ Some n
    → in_hand c h l ≡ APart q
    → contradicts (heard c h (lane_direction l) q.name) q.number (as_kept q) ≡ false
agrees c h l n q sound e is =
    let p = hand_current c h l n q sound e is in
    let s = heard c h (lane_direction l) q.name in
    ap (contradicts s q.number) (ap as_kept p.is_part)
    ∙ parts_agree p.opening.message c.part_size s q.number
    (heard_parts c h (lane_direction l) q.name p.opening sound p.is_current) p.from_one p.to_last

-- ---- what a delivery can be

-- what is in a lane's hand is read exactly where it wasn't damaged
put_in_hand : (c : Config) (h : History) (l : Lane) (n : ℕ)
    → IsSound c h
    → hand h l ≡ Some n
    → IsAsPut (is_damaged h n) (in_hand c h l)
put_in_hand c h l n sound e =
    let had = sound.hands l n e in
    subst (λ a. IsAsPut (is_damaged h n) a) (sym (in_hand_is c h l n e had))
    (sound.packets n had.packet had.was_sent)

-- what arrives is not idle or foreign, and a part or an abort has its body
abbrev IsNoStranger : Arrival → Type 0
IsNoStranger AnIdle = ⊥
IsNoStranger Foreign = ⊥
IsNoStranger NoPart = ⊥
IsNoStranger _ = Unit {0}

no_stranger : (damaged : Bool) (a : Arrival) → IsAsPut damaged a → IsNoStranger a
no_stranger true a put = subst (λ b. IsNoStranger b) (sym put) tt
no_stranger false AnIdle put = put
no_stranger false Foreign put = put
no_stranger false NoPart put = put
no_stranger false a put = tt

-- what isn't read was damaged
unread_damaged : (damaged : Bool) → IsAsPut damaged NotRead → damaged ≡ true
unread_damaged true put = refl
unread_damaged false put = absurd put

-- what was damaged isn't read
damaged_unread : (damaged : Bool) (a : Arrival) → IsAsPut damaged a → damaged ≡ true → a ≡ NotRead
damaged_unread true a put e = put
damaged_unread false a put e = absurd cc

-- what contradicts nothing breaks off in strict mode alone, and for a gap
gap_alone : (mode : Mode) (s : Parts) (n : ℕ) (clash : Bool) (reason : Reason)
    → clash ≡ false
    → ((clash ≡ true) × (reason ≡ Conflict)) ⊎ ((is_gap mode s n ≡ true) × (reason ≡ Discontinuity))
    → (mode ≡ Strict) × (reason ≡ Discontinuity)
gap_alone Any s n clash reason none (inl w) = let some : clash ≡ true = w.0 in absurd cc
gap_alone Any s n clash reason none (inr w) = let some : false ≡ true = w.0 in absurd cc
gap_alone Strict s n clash reason none (inl w) = let some : clash ≡ true = w.0 in absurd cc
gap_alone Strict s n clash reason none (inr w) = (refl, w.1)

-- the delivery of what is in a lane's hand is sound
pub delivery_sound : (c : Config) (h : History) (l : Lane) (n : ℕ)
    → IsSound c h
    → hand h l ≡ Some n
    → IsSoundOutcome c.mode (is_damaged h n) (outcome c h l)
delivery_sound c h l n sound e =
    let d = lane_direction l in
    let a = in_hand c h l in
    let tells = judged_tells c h d a in
    let put = put_in_hand c h l n sound e in
    let damaged = is_damaged h n in
    let known = no_stranger damaged a put in
    record {
      only_gaps = λ name reason is.
          let t = subst (λ o. TellsOf c h d a o) is tells in
          gap_alone c.mode (heard c h d t.0.name) t.0.number
          (contradicts (heard c h d t.0.name) t.0.number (as_kept t.0)) reason
          (agrees c h l n t.0 sound e t.1) t.2.why;
      not_bad_part = λ is. subst (λ b. IsNoStranger b) (subst (λ o. TellsOf c h d a o) is tells) known;
      not_idle = λ is. subst (λ b. IsNoStranger b) (subst (λ o. TellsOf c h d a o) is tells) known;
      not_foreign = λ is. subst (λ b. IsNoStranger b) (subst (λ o. TellsOf c h d a o) is tells) known;
      unreadable = (
        λ is. unread_damaged damaged
            (subst (λ b. IsAsPut damaged b) (subst (λ o. TellsOf c h d a o) is tells) put),
        λ e. ap (arrival_judged c h d) (damaged_unread damaged a put e),
      );
    }

-- ---- what a delivery owes

-- an outcome puts the report of what was broken off, or nothing
puts_outcome : (c : Config) (h g : History) (l : Lane) (side : Side) (o : Outcome) (k : ℕ)
    (p : SentPacket)
    → IsConfig c
    → IsSound c h
    → ((name : Name) (reason : Reason) → o ≡ Broken name reason → IsName name)
    → slice_get (outcome_puts c h side o) k ≡ Some p
    → IsPut c g (Deliver l) p
puts_outcome c h g l Ground (Broken name reason) k p good sound named e = absurd (no_place k p e)
puts_outcome c h g l Craft (Broken name reason) k p good sound named e =
    report_put c h g (Deliver l) name reason k p good sound (named name reason refl).source_fits refl refl e
puts_outcome c h g l side o k p good sound named e = absurd (no_place k p e)

taken_before : (k l : Lane) (before : Option ℕ) (n : ℕ)
    → (if same_lane k l then None else before) ≡ Some n
    → before ≡ Some n
taken_before k l before n = go (same_lane k l) where
  go : (b : Bool) → (if b then None else before) ≡ Some n → before ≡ Some n
  go true e = absurd cc
  go false e = e

hears : (c : Config) (h : History) (l : Lane) (n : ℕ) (d : Direction) (name : Name) (o : Outcome)
    → hand h l ≡ Some n
    → TellsOf c h (lane_direction l) (in_hand c h l) o
    → IsHeardNow c h d name
    (if same_direction (lane_direction l) d
    then heard_now (Delivered o) (in_hand c h l) name (heard c h d name) else heard c h d name)
hears c h l n d name o e tells = go (same_direction (lane_direction l) d) refl o tells where
  with_name : (b : Bool) → IsHeardNow c h d name (if b then no_parts else heard c h d name)
  with_name true = inr (inl refl)
  with_name false = inl refl

  with_part : (b : Bool) (i : Name) (q : NamedPart)
      → same_name i name ≡ b
      → lane_direction l ≡ d
      → in_hand c h l ≡ APart q
      → i ≡ q.name
      → IsHeardNow c h d name
      (if b then with_arrival (in_hand c h l) (heard c h d name) else heard c h d name)
  with_part true i q t there is same = inr (inr (record {
    lane = l;
    number = n;
    part = q;
    goes_there = there;
    was_taken = e;
    arrives = is;
    same_name = sym same ∙ same_name-true i name t;
    is_added = ap (λ a. with_arrival a (heard c h d name)) is;
  }))
  with_part false i q t there is same = inl refl

  go : (b : Bool)
      → same_direction (lane_direction l) d ≡ b
      → (o : Outcome)
      → TellsOf c h (lane_direction l) (in_hand c h l) o
      → IsHeardNow c h d name
      (if b then heard_now (Delivered o) (in_hand c h l) name (heard c h d name)
      else heard c h d name)
  go false b o tells = inl refl
  go true b (Kept i k) tells =
      with_part (same_name i name) i tells.0 refl
      (same_direction-true (lane_direction l) d b) tells.1 tells.2
  go true b (Released i len) tells = with_name (same_name i name)
  go true b (Broken i reason) tells = with_name (same_name i name)
  go true b o tells = inl refl

-- what is broken off is a name
pub broken_named : (c : Config) (h : History) (l : Lane) (n : ℕ) (name : Name) (reason : Reason)
    → IsSound c h
    → hand h l ≡ Some n
    → outcome c h l ≡ Broken name reason
    → IsName name
broken_named c h l n name reason sound e is =
    let d = lane_direction l in
    let t =
    subst (λ o. TellsOf c h d (in_hand c h l) o) is (judged_tells c h d (in_hand c h l)) in
    let part = hand_current c h l n t.0 sound e t.1 in
    subst (λ q. IsName q) (sym t.2.same_name)
    (sound.openings d t.0.name part.opening part.is_current).is_name

-- a delivery pays what it owes
pub deliver_owes : (c : Config) (first : Contents) (h : History) (l : Lane) (n : ℕ)
    → IsConfig c
    → IsSound c h
    → hand h l ≡ Some n
    → Owes c h (entry c first h (Deliver l))
deliver_owes c first h l n good sound e = record {
  opens = λ d name o f. absurd cc;
  retires = λ d name r. absurd cc;
  puts =
      λ k p f. puts_outcome c h (entry c first h (Deliver l) ∷ h) l (receiver_side (lane_direction l))
      (outcome c h l) k p good sound
      (λ name reason is. broken_named c h l n name reason sound e is) f;
  takes = λ m k f. inl (taken_before l m (hand h m) k f);
  hears =
      λ d name. hears c h l n d name (outcome c h l) e
      (judged_tells c h (lane_direction l) (in_hand c h l));
  clocks = sound.clocks;
}
