-- What holds of a history holds again after an entry that pays what it owes.
use Rattle.std.proofs.Common.{◌≡◌, ◌∙◌, ap, sym, subst, refl, ℕ, ◌<◌, nat_lt, ◌==◌, Bool, true, false, not, ◌&&◌, ◌||◌, ◌⊎◌, inl, inr, ◌∷◌, length, Option, Some, None, if◌then◌else◌, arith}
use Rattle.std.specs.List.{slice_get, find}
use Rattle.std.specs.Option.{option_or, option_map_or}
use Rattle.std.specs.FinMap as maps
use Rattle.std.specs.Ordering.{nat_cmp}
use Rattle.std.specs.Cmp.{nat_cmp_total, unsigned_tied}
use Rattle.std.proofs.lemmas.Option.{slice_get_within}
use Rattle.lpt_packet.specs.declared.direction.Direction.{Direction}
use Rattle.lpt_packet.specs.Names.{Name}
use Rattle.lpt_packet.proofs.Readings.{true_eq}
use Rattle.lpt_reception.specs.Received.{Kept as KeptPart, Parts, no_parts}
use Rattle.lpt_events.specs.NamedParts.{NamedPart}
use Rattle.lpt_events.specs.declared.lane.Lane.{Lane}
use Rattle.lpt_events.specs.Lanes.{lane_direction, same_direction}
use Rattle.lpt_events.specs.declared.config.Config.{Config}
use Rattle.lpt_events.specs.Arrivals.{NotRead, APart, arrival_in}
use Rattle.lpt_events.specs.declared.entry.Opening.{Opening}
use Rattle.lpt_journal.specs.Journal.{SentPacket, Recorded, History}
use Rattle.lpt_journal.specs.Link.{sent, loses, is_lost, damages, is_held, goes}
use Rattle.lpt_journal.specs.Hands.{hand, arrival_of, arrival_at, in_hand}
use Rattle.lpt_journal.specs.Senders.{is_opening_of, retires, current}
use Rattle.lpt_journal.specs.Receivers.{as_kept, with_piece, heard}
use Rattle.lpt_journal.specs.Headline.{IsPartOfCurrent, kept_piece}
use Rattle.lpt_events.proofs.LaneLemmas.{same_direction-true}
use Rattle.lpt_journal.proofs.PutLemmas.{packets_step, names_step}
use Rattle.lpt_journal.proofs.TestLemmas.{get-with_all, IsOldOrNew, with_all_cases}
use Rattle.lpt_packet.proofs.BoolLemmas.{and_right, not_true, or_false_right, lt_true}
use Rattle.lpt_journal.proofs.Steps.{IsKnown, IsSoundPut, IsInHand, IsSound, IsNew, IsTaken, IsKept, IsHeardNow, Owes, opening_found, part_stays}

-- ---- openings

later : (c : Config) (h : History) (x : Recorded) (d : Direction) (name : Name) (o : Opening)
    → IsKnown c h d name o
    → IsKnown c (x ∷ h) d name o
later c h x d name o k =
    record {
      same_direction = k.same_direction;
      same_name = k.same_name;
      is_name = k.is_name;
      place_fits = omega (arith, k.place_fits);
      splits = k.splits;
    }

openings_step : (c : Config) (h : History) (x : Recorded) → Owes c h x → IsSound c h
    → (d : Direction) (name : Name) (o : Opening)
    → current (x ∷ h) d name ≡ Some o
    → IsKnown c (x ∷ h) d name o
openings_step c h x owes sound d name o e =
    go (retires x.event d name) (find (is_opening_of d name) x.opens) refl e where
      go : (r : Bool) (f : Option Opening) → find (is_opening_of d name) x.opens ≡ f
          → ◌≡◌ {A = Option Opening} (if r then None else option_or f (current h d name)) (Some o)
          → IsKnown c (x ∷ h) d name o
      go true f i k = absurd cc
      go false (Some u) i k =
          let same : u ≡ o = cc in
          let found : find (is_opening_of d name) x.opens ≡ Some o = i ∙ ap Some same in
          let fresh : IsNew c h d name o = owes.opens d name o found in
          let of = opening_found d name x.opens o found in
          record {
            same_direction = of.0;
            same_name = of.1;
            is_name = fresh.is_name;
            place_fits = omega (arith, fresh.place);
            splits = fresh.splits;
          }
      go false None i k = later c h x d name o (sound.openings d name o k)

-- ---- packets

-- a packet that is held was held before, where it was there
pub held_before : (h : History) (x : Recorded) (n : ℕ) (p : SentPacket)
    → is_held (x ∷ h) n ≡ true
    → slice_get (sent h) n ≡ Some p
    → is_held h n ≡ true
held_before h x n p held there =
    let within : n < length (sent h) = slice_get_within (sent h) n p there in
    let kept_now : not (loses x.event n || is_lost h n) ≡ true =
    and_right (nat_lt n (length (sent (x ∷ h)))) (not (is_lost (x ∷ h) n)) held in
    let kept_then : is_lost h n ≡ false =
    or_false_right (loses x.event n) (is_lost h n)
    (not_true (loses x.event n || is_lost h n) kept_now) in
    λ i. lt_true n (length (sent h)) within i && not (kept_then i)

held_step : (c : Config) (h : History) (x : Recorded) → Owes c h x → IsSound c h
    → (n : ℕ) (p : SentPacket) (q : NamedPart)
    → is_held (x ∷ h) n ≡ true
    → slice_get (sent (x ∷ h)) n ≡ Some p
    → arrival_of c p ≡ APart q
    → IsPartOfCurrent c (x ∷ h) p.direction q
held_step c h x owes sound n p q held e is = go (with_all_cases (sent h) x.puts n p e) where
  of_put : (b : Bool) → IsSoundPut b c (x ∷ h) p → IsPartOfCurrent c (x ∷ h) p.direction q
  of_put true put = absurd (let no : NotRead ≡ APart q = sym put ∙ is in cc)
  of_put false put = put.part q is

  go : IsOldOrNew (sent h) x.puts n p
      → IsPartOfCurrent c (x ∷ h) p.direction q
  go (inl old) =
      let before : is_held h n ≡ true = held_before h x n p held old in
      part_stays c h x p.direction q owes (sound.held n p q before old is)
      (λ r. (owes.retires p.direction q.name r).held n p q before old refl is refl)
  go (inr fresh) = of_put (damages x.event) (owes.puts fresh.0 p fresh.2).sound

-- ---- hands

-- the packet of a number that goes this way
went : (h : History) (d : Direction) (n : ℕ)
    → goes h d n ≡ true
    → (p : SentPacket) × (slice_get (sent h) n ≡ Some p) × (p.direction ≡ d)
went h d n g = go (slice_get (sent h) n) refl g where
  go : (o : Option SentPacket)
      → slice_get (sent h) n ≡ o
      → option_map_or (λ p. same_direction p.direction d) o false ≡ true
      → (p : SentPacket) × (slice_get (sent h) n ≡ Some p) × (p.direction ≡ d)
  go None e k = absurd cc
  go (Some p) e k = (p, e, same_direction-true p.direction d k)

hands_step : (c : Config) (h : History) (x : Recorded) → Owes c h x → IsSound c h
    → (l : Lane) (n : ℕ) → hand (x ∷ h) l ≡ Some n → IsInHand c (x ∷ h) l n
hands_step c h x owes sound l n e = go (owes.takes l n e) where
  go : (hand h l ≡ Some n) ⊎ IsTaken h l n → IsInHand c (x ∷ h) l n
  go (inl old) =
      let had = sound.hands l n old in
      record {
        packet = had.packet;
        was_sent = get-with_all (sent h) x.puts n had.packet had.was_sent;
        goes_there = had.goes_there;
        part = λ q is. part_stays c h x had.packet.direction q owes (had.part q is)
            (λ r. (owes.retires had.packet.direction q.name r).hands l n had.packet q old had.was_sent
            refl is refl);
      }
  go (inr taken) =
      let w = went h (lane_direction l) n taken.goes_there in
      record {
        packet = w.0;
        was_sent = get-with_all (sent h) x.puts n w.0 w.1;
        goes_there = w.2;
        part =
            λ q is. part_stays c h x w.0.direction q owes (sound.held n w.0 q taken.was_held w.1 is)
            (λ r. (owes.retires w.0.direction q.name r).held n w.0 q taken.was_held w.1 refl is refl);
      }

-- what arrives from a lane's hand is what its packet is to the node that receives it
pub in_hand_is : (c : Config) (h : History) (l : Lane) (n : ℕ)
    → hand h l ≡ Some n
    → (had : IsInHand c h l n)
    → in_hand c h l ≡ arrival_of c had.packet
in_hand_is c h l n e had =
    ap (λ o. option_map_or (arrival_at c h (lane_direction l)) o NotRead) e
    ∙ ap (λ o. option_map_or (λ p. arrival_in c (lane_direction l) p.octets) o NotRead) had.was_sent
    ∙ ap (λ d. arrival_in c d had.packet.octets) (sym had.goes_there)

-- a part in a lane's hand is one of the message last opened under its name
pub hand_current : (c : Config) (h : History) (l : Lane) (n : ℕ) (q : NamedPart)
    → IsSound c h
    → hand h l ≡ Some n
    → in_hand c h l ≡ APart q
    → IsPartOfCurrent c h (lane_direction l) q
hand_current c h l n q sound e is =
    let had = sound.hands l n e in
    subst (λ d. IsPartOfCurrent c h d q) had.goes_there
    (had.part q (sym (in_hand_is c h l n e had) ∙ is))

-- ---- what was heard

-- what a set with one part more has at a number
pub get-with_piece : (s : Parts) (q : NamedPart) (n : ℕ)
    → maps.get (with_piece s q) n ≡ (if n == q.number then Some (as_kept q) else maps.get s n)
get-with_piece s q n =
    maps.get-insert nat_cmp_total s q.number (as_kept q) n
    ∙ ap (λ b. if b then Some (as_kept q) else maps.get s n) (unsigned_tied n q.number)

-- what a set with one part more has at a number is that part, or stood there
pub with_piece_cases : (s : Parts) (q : NamedPart) (name : Name) (n : ℕ) (y : KeptPart)
    → q.name ≡ name
    → maps.get (with_piece s q) n ≡ Some y
    → (q ≡ kept_piece name n y) ⊎ (maps.get s n ≡ Some y)
with_piece_cases s q name n y i e = go (n == q.number) refl (sym (get-with_piece s q n) ∙ e) where
  go : (b : Bool)
      → (n == q.number) ≡ b
      → ◌≡◌ {A = Option KeptPart} (if b then Some (as_kept q) else maps.get s n) (Some y)
      → (q ≡ kept_piece name n y) ⊎ (maps.get s n ≡ Some y)
  go true t k =
      let at : n ≡ q.number = true_eq n q.number t in
      let same : as_kept q ≡ y = cc in
      inl (λ j. kept_piece (i j) (sym at j) (same j))
  go false t k = inr k

heard_step : (c : Config) (h : History) (x : Recorded) → Owes c h x → IsSound c h
    → (d : Direction) (name : Name) (n : ℕ) (y : KeptPart) → maps.get (heard c (x ∷ h) d name) n ≡ Some y
    → IsPartOfCurrent c (x ∷ h) d (kept_piece name n y)
heard_step c h x owes sound d name n y e = go (owes.hears d name) where
  old : maps.get (heard c h d name) n ≡ Some y → IsPartOfCurrent c (x ∷ h) d (kept_piece name n y)
  old had =
      part_stays c h x d (kept_piece name n y) owes (sound.heard d name n y had)
      (λ r. let none : maps.get (heard c h d name) n ≡ None = (owes.retires d name r).heard n in cc)

  part_kept : (k : IsKept c h d name (heard c (x ∷ h) d name)) → IsPartOfCurrent c (x ∷ h) d k.part
  part_kept k =
      let had = sound.hands k.lane k.number k.was_taken in
      let now : IsPartOfCurrent c h d k.part =
      subst (λ e. IsPartOfCurrent c h e k.part) k.goes_there
      (hand_current c h k.lane k.number k.part sound k.was_taken k.arrives) in
      part_stays c h x d k.part owes now
      (λ r. (owes.retires d k.part.name r).hands k.lane k.number had.packet k.part k.was_taken
      had.was_sent
      (had.goes_there ∙ k.goes_there)
      (sym (in_hand_is c h k.lane k.number k.was_taken had) ∙ k.arrives) refl)

  more : (k : IsKept c h d name (heard c (x ∷ h) d name))
      → (k.part ≡ kept_piece name n y) ⊎ (maps.get (heard c h d name) n ≡ Some y)
      → IsPartOfCurrent c (x ∷ h) d (kept_piece name n y)
  more k (inl same) = subst (λ q. IsPartOfCurrent c (x ∷ h) d q) same (part_kept k)
  more k (inr had) = old had

  go : IsHeardNow c h d name (heard c (x ∷ h) d name)
      → IsPartOfCurrent c (x ∷ h) d (kept_piece name n y)
  go (inl same) = old (ap (λ s. maps.get s n) (sym same) ∙ e)
  go (inr (inl none)) =
      absurd (let was : maps.get no_parts n ≡ Some y = ap (λ s. maps.get s n) (sym none) ∙ e in
      let is : maps.get no_parts n ≡ None = maps.get-empty nat_cmp n in cc)
  go (inr (inr k)) =
      more k (with_piece_cases (heard c h d name) k.part name n y k.same_name
      (ap (λ s. maps.get s n) (sym k.is_added) ∙ e))

-- ---- all of it

-- what holds of a history holds again after an entry that pays what it owes
pub sound_step : (c : Config) (h : History) (x : Recorded)
    → Owes c h x
    → IsSound c h
    → IsSound c (x ∷ h)
sound_step c h x owes sound = record {
  openings = openings_step c h x owes sound;
  packets = packets_step c h x owes sound;
  names = names_step c h x owes sound;
  held = held_step c h x owes sound;
  hands = hands_step c h x owes sound;
  heard = heard_step c h x owes sound;
  clocks = owes.clocks;
}
