-- What a delivery releases is the message last opened under its name.
use Rattle.std.proofs.Common.{◌≡◌, ◌∙◌, ap, sym, subst, refl, ℕ, zero, suc, true, false, ◌&&◌, length, Some, None}
use Rattle.std.specs.List.{slice_get}
use Rattle.lpt_packet.specs.declared.direction.Direction.{Direction}
use Rattle.lpt_packet.specs.Names.{Name, same_name}
use Rattle.lpt_packet.proofs.NameLemmas.{same_name-refl}
use Rattle.lpt_reception.specs.Received.{Parts, with_part, is_whole, spelled}
use Rattle.lpt_reception.specs.PartsOf.{IsPartsOf, kept_of}
use Rattle.lpt_reception.proofs.MessageLemmas.{parts_spell, IsPartsOf-with_part}
use Rattle.lpt_events.specs.NamedParts.{NamedPart}
use Rattle.lpt_events.specs.declared.lane.Lane.{Lane}
use Rattle.lpt_events.specs.Lanes.{lane_direction, same_direction}
use Rattle.lpt_events.specs.declared.config.Config.{Config}
use Rattle.lpt_events.specs.declared.outcome.Outcome.{Outcome}
use Rattle.lpt_events.specs.declared.outcome.Outcome.TheVariants.{Released, PlainReleased}
use Rattle.lpt_events.specs.Arrivals.{Arrival, ARequest, APart}
use Rattle.lpt_acts.specs.Acts.{Deliver}
use Rattle.lpt_events.specs.declared.reply.Answer.TheVariants.{Delivered}
use Rattle.lpt_events.specs.declared.entry.Opening.{Opening}
use Rattle.lpt_events.specs.declared.entry.Release.{Release}
use Rattle.lpt_journal.specs.Journal.{History}
use Rattle.lpt_journal.specs.Hands.{hand, in_hand}
use Rattle.lpt_journal.specs.Senders.{current}
use Rattle.lpt_journal.specs.Receivers.{as_kept, with_piece, heard, ends, is_closed}
use Rattle.lpt_journal.specs.Delivery.{outcome}
use Rattle.lpt_journal.specs.Releases.{released_now}
use Rattle.lpt_events.specs.Configs.{IsConfig}
use Rattle.lpt_journal.specs.Replies.{entry}
use Rattle.lpt_events.proofs.LaneLemmas.{same_direction-refl}
use Rattle.lpt_journal.proofs.TestLemmas.{no_place}
use Rattle.lpt_journal.proofs.Steps.{IsSound}
use Rattle.lpt_journal.proofs.Soundness.{hand_current}
use Rattle.lpt_journal.proofs.Deliveries.{heard_parts}
use Rattle.lpt_journal.proofs.OutcomeLemmas.{TellsOf, judged_tells}
use Rattle.lpt_memory.specs.Memories.{Contents}
use Rattle.lpt_journal.proofs.Releasing.{OwesReleases}
use Rattle.lpt_packet.proofs.BoolLemmas.{or_left}

-- ---- the message

-- the kept parts of a transaction and the one in hand spell its message, where they are all
spells : (c : Config) (h : History) (l : Lane) (n : ℕ) (q : NamedPart)
    → IsConfig c
    → IsSound c h
    → hand h l ≡ Some n
    → in_hand c h l ≡ APart q
    → is_whole (with_piece (heard c h (lane_direction l) q.name) q) ≡ true
    → (o : Opening) × (current h (lane_direction l) q.name ≡ Some o) ×
    (spelled (with_piece (heard c h (lane_direction l) q.name) q) ≡ o.message)
spells c h l n q good sound e is all =
    let p = hand_current c h l n q sound e is in
    let s = heard c h (lane_direction l) q.name in
    let parts =
    IsPartsOf-with_part p.opening.message c.part_size s q.number
    (heard_parts c h (lane_direction l) q.name p.opening sound p.is_current) p.from_one
    p.to_last in
    let same : kept_of p.opening.message c.part_size q.number ≡ as_kept q =
    ap as_kept (sym p.is_part) in
    let now : IsPartsOf p.opening.message c.part_size (with_piece s q) =
    subst (λ y. IsPartsOf p.opening.message c.part_size (with_part s q.number y)) same parts in (
      p.opening,
      p.is_current,
      parts_spell p.opening.message c.part_size (with_piece s q) good.part_size_fits now all,
    )

-- ---- what a delivery owes for what it releases

only_one : (place : ℕ) (d : Direction) (o : Outcome) (s : Name → Parts) (a : Arrival) (k : ℕ)
    (r : Release)
    → slice_get (released_now place d (Delivered o) s a) k ≡ Some r
    → (k ≡ 0) × (r.place ≡ place)
only_one place d (Released name len) s (APart q) zero r e = (
  refl,
  let same : record {
    place = place;
    of = Some (d, name);
    message = spelled (with_piece (s name) q);
  } ≡ r = cc in ap (λ (w : Release). w.place) (sym same),
)
only_one place d (Released name len) s (APart q) (suc k) r e = absurd (no_place k r e)
only_one place d (PlainReleased len) s (ARequest b) zero r e = (
  refl,
  let same : record { place = place; of = None; message = b } ≡ r = cc in
      ap (λ (w : Release). w.place) (sym same),
)
only_one place d (PlainReleased len) s (ARequest b) (suc k) r e = absurd (no_place k r e)
only_one place d o s a k r e = absurd (no_place k r e)

-- what is released of no transaction is the request that arrived
pub plain_is : (place : ℕ) (d : Direction) (o : Outcome) (s : Name → Parts) (a : Arrival) (k : ℕ)
    (r : Release)
    → slice_get (released_now place d (Delivered o) s a) k ≡ Some r
    → r.of ≡ None
    → a ≡ ARequest r.message
plain_is place d (Released name len) s (APart q) zero r e none =
    absurd (let made : record {
      place = place;
      of = Some (d, name);
      message = spelled (with_piece (s name) q);
    } ≡ r =
    cc in
    let some : Some (d, name) ≡ r.of = ap (λ (w : Release). w.of) made in cc)
plain_is place d (Released name len) s (APart q) (suc k) r e none = absurd (no_place k r e)
plain_is place d (PlainReleased len) s (ARequest b) zero r e none =
    let same : record { place = place; of = None; message = b } ≡ r = cc in
    ap (λ (w : Release). ARequest w.message) same
plain_is place d (PlainReleased len) s (ARequest b) (suc k) r e none = absurd (no_place k r e)
plain_is place d o s a k r e none = absurd (no_place k r e)

-- what a large release of a delivery with this outcome tells
record IsTold (c : Config) (h : History) (l : Lane) (o : Outcome) (r : Release)
    (t : Direction × Name) : Type 0 where
  opening : Opening
  is_current : current h t.0 t.1 ≡ Some opening
  is_message : r.message ≡ opening.message
  was_open : is_closed h t.0 t.1 ≡ false
  ends_it : (same_direction (lane_direction l) t.0 && ends (Delivered o) t.1) ≡ true

large_is : (c : Config) (h : History) (l : Lane) (n : ℕ)
    → IsConfig c
    → IsSound c h
    → hand h l ≡ Some n
    → (o : Outcome) (a : Arrival) (k : ℕ) (r : Release) (t : Direction × Name)
    → in_hand c h l ≡ a
    → TellsOf c h (lane_direction l) a o
    → slice_get (released_now (length h) (lane_direction l) (Delivered o)
    (heard c h (lane_direction l)) a) k ≡ Some r
    → r.of ≡ Some t
    → IsTold c h l o r t
large_is c h l n good sound e (Released name len) (APart q) zero r t is tells f of =
    let d = lane_direction l in
    let of_it = tells.2 in
    let same : tells.0 ≡ q = let b : APart q ≡ APart tells.0 = tells.1 in cc in
    let named : q.name ≡ name = ap (λ (w : NamedPart). w.name) (sym same) ∙ sym of_it.same_name in
    let all : is_whole (with_piece (heard c h d q.name) q) ≡ true =
    subst (λ (w : NamedPart). is_whole (with_piece (heard c h d w.name) w)
    ≡ true) same of_it.is_all in
    let fresh : is_closed h d q.name ≡ false =
    subst (λ (w : NamedPart). is_closed h d w.name ≡ false) same of_it.was_open in
    let it = spells c h l n q good sound e is all in
    let made : record {
      place = length h;
      of = Some (d, name);
      message = spelled (with_piece (heard c h d name) q);
    } ≡ r =
    cc in
    let whole : spelled (with_piece (heard c h d name) q) ≡ r.message =
    ap (λ (w : Release). w.message) made in
    let pair : (d, name) ≡ t =
    let p : Some (d, name) ≡ Some t = ap (λ (w : Release). w.of) made ∙ of in cc in
    let way : d ≡ t.0 = ap (λ p. p.0) pair in
    let its : name ≡ t.1 = ap (λ p. p.1) pair in
    record {
      opening = it.0;
      is_current = (λ j. current h (sym way j) (sym (named ∙ its) j)) ∙ it.1;
      is_message = sym whole ∙ ap (λ i. spelled (with_piece (heard c h d i) q)) (sym named) ∙ it.2;
      was_open = (λ j. is_closed h (sym way j) (sym (named ∙ its) j)) ∙ fresh;
      ends_it =
          (λ j. (same_direction d (sym way j) && same_name name (sym its j)))
          ∙ (λ j. same_direction-refl d j && same_name-refl name j);
    }
large_is c h l n good sound e (Released name len) (APart q) (suc k) r t is tells f of =
    absurd (no_place k r f)
large_is c h l n good sound e (PlainReleased len) (ARequest b) zero r t is tells f of =
    absurd (let made : record { place = length h; of = None; message = b } ≡ r = cc in
    let none : None ≡ r.of = ap (λ (w : Release). w.of) made in cc)
large_is c h l n good sound e (PlainReleased len) (ARequest b) (suc k) r t is tells f of =
    absurd (no_place k r f)
large_is c h l n good sound e o a k r t is tells f of = absurd (no_place k r f)

-- a delivery pays what it owes for what it releases
pub deliver_releases : (c : Config) (first : Contents) (h : History) (l : Lane) (n : ℕ)
    → IsConfig c
    → IsSound c h
    → hand h l ≡ Some n
    → OwesReleases c h (entry c first h (Deliver l))
deliver_releases c first h l n good sound e =
    let d = lane_direction l in
    record {
      one = λ k r f. (only_one (length h) d (outcome c h l) (heard c h d) (in_hand c h l) k r f).0;
      place =
          λ k r f. (only_one (length h) d (outcome c h l) (heard c h d) (in_hand c h l) k r f).1;
      large = λ k r t f of.
          let it =
          large_is c h l n good sound e (outcome c h l) (in_hand c h l) k r t refl
          (judged_tells c h d (in_hand c h l)) f of in
          record {
            opening = it.opening;
            is_current = it.is_current;
            is_message = it.is_message;
            was_open = it.was_open;
            is_ended =
                or_left (same_direction d t.0 && ends (Delivered (outcome c h l)) t.1)
                (is_closed h t.0 t.1) it.ends_it;
          };
    }
