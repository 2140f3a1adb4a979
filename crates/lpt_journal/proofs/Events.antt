-- What the events that open, send and take owe, and that they pay it.
use Rattle.std.proofs.Common.{◌≡◌, ◌∙◌, ap, sym, subst, refl, ℕ, zero, suc, ◌≤◌, nat_lt, nat_le, ◌==◌, cond, Bool, true, false, not, ◌&&◌, ◌||◌, ◌⊎◌, inl, inr, List, [], ◌∷◌, length, Option, Some, None, if◌then◌else◌, arith}
use Rattle.std.specs.List.{slice_get, find}
use Rattle.std.specs.Option.{is_some}
use Rattle.lpt_packet.specs.declared.direction.Direction.{Direction}
use Rattle.lpt_packet.specs.declared.direction.Direction.TheVariants.{Up, Down}
use Rattle.lpt_packet.specs.Names.{Name, IsName}
use Rattle.lpt_part.specs.Splitting.{part_count}
use Rattle.lpt_part.proofs.SplitLemmas.{part_of-fits}
use Rattle.lpt_reception.specs.PartsOf.{IsMessage}
use Rattle.lpt_events.specs.NamedParts.{NamedPart}
use Rattle.lpt_events.specs.declared.lane.Lane.{Lane}
use Rattle.lpt_events.specs.Lanes.{lane_direction, same_lane}
use Rattle.lpt_events.specs.declared.config.Config.{Config}
use Rattle.lpt_events.specs.declared.side.Side.TheVariants.{Craft}
use Rattle.lpt_events.specs.Arrivals.{APart, part_name, part_subtype}
use Rattle.lpt_events.specs.MadePackets.{nth_part, nth_named}
use Rattle.lpt_acts.specs.Acts.{Open, Send, Take}
use Rattle.lpt_events.specs.declared.entry.Opening.{Opening}
use Rattle.lpt_events.specs.declared.fault.StepFault.TheVariants.{InUse, Short, Long, TooMany, NotOpen, NoSuchPart, NotHeld, HandFull}
use Rattle.lpt_journal.specs.Journal.{SentPacket, History}
use Rattle.lpt_journal.specs.Link.{is_held, goes}
use Rattle.lpt_journal.specs.Hands.{hand, arrival_of}
use Rattle.lpt_journal.specs.Senders.{is_opening_of, current, is_over, Sender, FreeSender, OpenSender, ClosedSender, sender_of, sender, is_free, is_open, open_count, count, type_counter}
use Rattle.lpt_events.specs.Sides.{sender_side}
use Rattle.lpt_journal.specs.Receivers.{clock, limits}
use Rattle.lpt_events.specs.Configs.{IsConfig}
use Rattle.lpt_journal.specs.Replies.{part_packet, send_puts, entry}
use Rattle.lpt_journal.specs.Refusals.{parts_open, refusal}
use Rattle.lpt_journal.specs.Headline.{IsPartOfCurrent}
use Rattle.lpt_packet.proofs.Readings.{not_lt}
use Rattle.lpt_events.proofs.LaneLemmas.{same_lane-true}
use Rattle.lpt_journal.proofs.TestLemmas.{le_false, not_zero, two_pass, four_pass, no_place}
use Rattle.lpt_packet.proofs.BoolLemmas.{and_left, and_right, not_false, or_false_left, or_false_right}
use Rattle.lpt_journal.proofs.CalmEvents.{calm_owes}
use Rattle.lpt_memory.specs.Memories.{Contents}
use Rattle.lpt_journal.proofs.Steps.{IsRead, IsPut, IsSound, IsTaken, Owes, opening_found}
use Rattle.lpt_events.specs.Counts.{AreCounts}
use Rattle.lpt_events.proofs.ArrivalLemmas.{part_arrives}

-- ---- opening

-- a free sender has no opening
pub free_current : (h : History) (d : Direction) (name : Name)
    → is_free (sender h d name) ≡ true
    → current h d name ≡ None
free_current h d name free = go (current h d name) (is_over h d name) refl free where
  go : (o : Option Opening) (over : Bool)
      → current h d name ≡ o
      → is_free (sender_of o over) ≡ true
      → current h d name ≡ None
  go None over e t = e
  go (Some o) true e t = absurd cc
  go (Some o) false e t = absurd cc

-- the one opening that is found
pub only_opening : (d : Direction) (name : Name) (o u : Opening)
    → find (is_opening_of d name) (o ∷ []) ≡ Some u
    → o ≡ u
only_opening d name o u f = go (is_opening_of d name o) f where
  go : (b : Bool) → ◌≡◌ {A = Option Opening} (cond b (Some o) None) (Some u) → o ≡ u
  go true e = cc
  go false e = absurd cc

-- an opening pays what it owes
pub open_owes : (c : Config) (first : Contents) (h : History) (d : Direction) (name : Name) (m : List ℕ)
    → IsSound c h
    → IsName name
    → refusal c h (Open d name m) ≡ None
    → Owes c h (entry c first h (Open d name m))
open_owes c first h d name m sound named accepted =
    let o : Opening = record { place = length h; direction = d; name = name; message = m } in
    let t =
    four_pass (not (is_free (sender h d name))) (nat_le (length m) c.part_size)
    (nat_lt 65542 (length m))
    (nat_le (limits c h (sender_side d)).outgoing (open_count h d)) InUse Short Long TooMany
    accepted in
    let splits : IsMessage m c.part_size =
    record {
      long = le_false (length m) c.part_size t.1;
      short = not_lt 65542 (length m) t.2;
    } in
    let free : current h d name ≡ None =
    free_current h d name (not_false (is_free (sender h d name)) t.0) in
    record {
      opens = λ e i u f.
          let found = opening_found e i (o ∷ []) u f in
          let same : o ≡ u = only_opening e i o u f in
          record {
            is_name =
                subst (λ n. IsName n) (ap (λ (v : Opening). v.name) same ∙ found.1) named;
            free =
                (λ j. current h (sym found.0 j) (sym found.1 j))
                ∙ ap (λ (v : Opening). current h v.direction v.name) (sym same) ∙ free;
            place = ap (λ (v : Opening). v.place) (sym same);
            splits = subst (λ (v : Opening). IsMessage v.message c.part_size) same splits;
          };
      retires = λ e i r. absurd cc;
      puts = λ k p f. absurd (no_place k p f);
      takes = λ l n f. inl f;
      hears = λ e i. inl refl;
      clocks = sound.clocks;
    }

-- ---- sending

-- an open sender's message is that of the last opening
pub open_current : (h : History) (d : Direction) (name : Name) (m : List ℕ) → sender h d name ≡ OpenSender m
    → (o : Opening) × (current h d name ≡ Some o) × (o.message ≡ m)
open_current h d name m e = go (current h d name) (is_over h d name) refl e where
  go : (o : Option Opening) (over : Bool) → current h d name ≡ o → sender_of o over ≡ OpenSender m
      → (o : Opening) × (current h d name ≡ Some o) × (o.message ≡ m)
  go None over is t = absurd cc
  go (Some o) true is t = absurd cc
  go (Some o) false is t = (o, is, cc)

-- the part's packet that is made now arrives as that part
packet_arrives : (c : Config) (h : History) (d : Direction) (name : Name) (m : List ℕ) (k : ℕ)
    → IsConfig c
    → IsSound c h
    → IsMessage m c.part_size
    → IsName name
    → 1 ≤ k
    → k ≤ part_count (length m) c.part_size
    → arrival_of c (record {
      direction = d;
      octets = part_packet c h d name.source (nth_part c.part_size name.id m k);
    }) ≡ APart (nth_named c.part_size name m k)
packet_arrives c h Up name m k good sound splits i one last =
    let counts : AreCounts (count h Up) 0 0 =
    record { count_fits = omega arith; counter_fits = omega arith; time_fits = omega arith } in
    part_arrives c Up name.source (count h Up) 0 0 (nth_part c.part_size name.id m k) good counts
    i.source_fits i.id_fits
    (part_of-fits m c.part_size k good.part_size_fits splits.long splits.short one last)
packet_arrives c h Down name m k good sound splits i one last =
    let q = nth_part c.part_size name.id m k in
    let counter = type_counter h 13 (part_subtype Down q.kind) in
    let counts : AreCounts (count h Down) counter (clock c h Craft) =
    record {
      count_fits = omega arith;
      counter_fits = omega arith;
      time_fits = sound.clocks Craft;
    } in
    part_arrives c Down name.source (count h Down) counter (clock c h Craft) q good counts i.source_fits
    i.id_fits
    (part_of-fits m c.part_size k good.part_size_fits splits.long splits.short one last)

pub only_element : {A : Type 0} (x : A) (n : ℕ) (y : A) → slice_get (x ∷ []) n ≡ Some y → x ≡ y
only_element x zero y e = cc
only_element x (suc n) y e = absurd (no_place n y e)

same_part : {q r : NamedPart} → APart q ≡ APart r → q ≡ r
same_part e = cc

-- sending a part pays what it owes
pub send_owes : (c : Config) (first : Contents) (h : History) (d : Direction) (name : Name) (k : ℕ)
    → IsConfig c
    → IsSound c h
    → IsName name
    → refusal c h (Send d name k) ≡ None
    → Owes c h (entry c first h (Send d name k))
send_owes c first h d name k good sound i accepted =
    let t =
    two_pass (not (is_open (sender h d name)))
    ((k == 0) || nat_lt (parts_open c (sender h d name)) k) NotOpen NoSuchPart accepted in
    calm_owes c first h (Send d name k) refl sound (puts_part (sender h d name) refl t.0 t.1)
  where
    puts_part : (s : Sender)
        → sender h d name ≡ s
        → not (is_open s) ≡ false
        → ((k == 0) || nat_lt (parts_open c s) k) ≡ false
        → (n : ℕ) (p : SentPacket)
        → slice_get (send_puts c h d name k s) n ≡ Some p
        → IsPut c (entry c first h (Send d name k) ∷ h) (Send d name k) p
    puts_part FreeSender is t u n p f = absurd cc
    puts_part ClosedSender is t u n p f = absurd cc
    puts_part (OpenSender m) is t u n p f =
        let o = open_current h d name m is in
        let splits : IsMessage m c.part_size =
        subst (λ b. IsMessage b c.part_size) o.2 (sound.openings d name o.0 o.1).splits in
        let one : 1 ≤ k =
        not_zero k (or_false_left (k == 0) (nat_lt (part_count (length m) c.part_size) k) u) in
        let last : k ≤ part_count (length m) c.part_size =
        not_lt (part_count (length m) c.part_size) k
        (or_false_right (k == 0) (nat_lt (part_count (length m) c.part_size) k) u) in
        let now : IsPartOfCurrent c (entry c first h (Send d name k) ∷ h) d
        (nth_named c.part_size name m k) =
        record {
          opening = o.0;
          is_current = o.1;
          from_one = one;
          to_last = subst (λ b. k ≤ part_count (length b) c.part_size) (sym o.2) last;
          is_part = ap (λ b. nth_named c.part_size name b k) (sym o.2);
        } in
        let arrives = packet_arrives c h d name m k good sound splits i one last in
        subst (λ x. IsPut c (entry c first h (Send d name k) ∷ h) (Send d name k) x)
        (only_element _ n p f)
        (record {
          sound = record {
            is_read = subst (λ a. IsRead a) (sym arrives) tt;
            part =
                λ q e. subst (λ r. IsPartOfCurrent c (entry c first h (Send d name k) ∷ h) d r)
                (same_part (sym arrives ∙ e)) now;
          };
          name = ap part_name arrives;
        })

-- ---- taking

-- taking a packet pays what it owes
pub take_owes : (c : Config) (first : Contents) (h : History) (l : Lane) (n : ℕ)
    → IsSound c h
    → refusal c h (Take l n) ≡ None
    → Owes c h (entry c first h (Take l n))
take_owes c first h l n sound accepted =
    let t =
    two_pass (is_some (hand h l))
    (not (is_held h n && goes h (lane_direction l) n)) HandFull NotHeld accepted in
    let there : (is_held h n && goes h (lane_direction l) n) ≡ true =
    not_false (is_held h n && goes h (lane_direction l) n) t.1 in
    record {
      opens = λ e j u f. absurd cc;
      retires = λ e j r. absurd cc;
      puts = λ k p f. absurd (no_place k p f);
      takes = λ m k f. in_hand_now m k (same_lane l m) refl f there;
      hears = λ e j. inl refl;
      clocks = sound.clocks;
    }
  where
    in_hand_now : (m : Lane) (k : ℕ) (b : Bool)
        → same_lane l m ≡ b
        → (if b then Some n else hand h m) ≡ Some k
        → (is_held h n && goes h (lane_direction l) n) ≡ true
        → (hand h m ≡ Some k) ⊎ IsTaken h m k
    in_hand_now m k true e f there =
        let at : n ≡ k = cc in
        let lane : l ≡ m = same_lane-true l m e in
        inr (record {
          was_held =
              ap (is_held h) (sym at) ∙ and_left (is_held h n) (goes h (lane_direction l) n) there;
          goes_there =
              (λ j. goes h (lane_direction (sym lane j)) (sym at j))
              ∙ and_right (is_held h n) (goes h (lane_direction l) n) there;
        })
    in_hand_now m k false e f there = inl f
