-- What retirement owes, and that it pays it: of a clear transaction nothing is on its way.
use Rattle.std.proofs.Common.{◌≡◌, ◌∙◌, ap, sym, subst, refl, ℕ, zero, suc, ◌<◌, ◌==◌, Bool, true, false, not, ◌&&◌, ◌||◌, inl, [], ◌∷◌, length, Some, None, arith}
use Rattle.std.proofs.lemmas.Bool.Decides.{nat_tests}
use Rattle.std.proofs.lemmas.Option.{slice_get_within}
use Rattle.std.specs.List.{slice_get, list_any}
use Rattle.std.specs.Option.{option_map_or, option_eq}
use Rattle.std.specs.FinMap as maps
use Rattle.std.specs.Ordering.{nat_cmp}
use Rattle.lpt_packet.specs.declared.direction.Direction.{Direction}
use Rattle.lpt_packet.specs.Names.{Name, same_name}
use Rattle.lpt_packet.proofs.NameLemmas.{same_name-refl, same_name-true}
use Rattle.lpt_packet.proofs.Readings.{true_eq}
use Rattle.lpt_reception.specs.Received.{Parts}
use Rattle.lpt_memory.specs.Memories.{Contents}
use Rattle.lpt_events.specs.NamedParts.{NamedPart}
use Rattle.lpt_events.specs.Arrivals.{APart, part_name}
use Rattle.lpt_events.specs.Lanes.{lanes, same_direction}
use Rattle.lpt_events.specs.declared.config.Config.{Config}
use Rattle.lpt_acts.specs.Acts.{Retire}
use Rattle.lpt_events.specs.declared.fault.StepFault.TheVariants.{NotOpen, NotClear, StillOpen}
use Rattle.lpt_events.specs.declared.lane.Lane.{Lane}
use Rattle.lpt_events.specs.declared.lane.Lane.TheVariants.{S1, S2, G1, G2}
use Rattle.lpt_events.proofs.LaneLemmas.{same_direction-refl, same_direction-true}
use Rattle.lpt_journal.specs.Clear.{any_below, is_part_of, is_part_at, part_held, part_in_hand, is_clear}
use Rattle.lpt_journal.specs.Hands.{hand, arrival_of}
use Rattle.lpt_journal.specs.Journal.{SentPacket, History}
use Rattle.lpt_journal.specs.Link.{sent, is_held}
use Rattle.lpt_journal.specs.Receivers.{heard, has_parts}
use Rattle.lpt_journal.specs.Refusals.{refusal}
use Rattle.lpt_journal.specs.Replies.{entry}
use Rattle.lpt_journal.specs.Senders.{sender, is_free, is_open}
use Rattle.lpt_journal.proofs.Steps.{IsSound, IsUnheard, Owes}
use Rattle.lpt_journal.proofs.TestLemmas.{three_pass, no_place}
use Rattle.lpt_packet.proofs.BoolLemmas.{and_left, and_right, not_false, not_true, or_false_left, or_false_right}

-- ---- tests that nothing passes

none_below : (test : ℕ → Bool) (n k : ℕ) → any_below test n ≡ false → k < n → test k ≡ false
none_below test zero k none within = absurd (omega arith)
none_below test (suc n) k none within = go (k == n) refl (none_below test n k) where
  go : (b : Bool)
      → (k == n) ≡ b
      → (any_below test n ≡ false → k < n → test k ≡ false)
      → test k ≡ false
  go true last others =
      ap test (true_eq k n last) ∙ or_false_right (any_below test n) (test n) none
  go false apart others =
      others (or_false_left (any_below test n) (test n) none) (grind (arith, nat_tests))

no_lane : (test : Lane → Bool) (l : Lane) → list_any test lanes ≡ false → test l ≡ false
no_lane test l none = go l where
  but_s1 : list_any test (S2 ∷ G1 ∷ G2 ∷ []) ≡ false
  but_s1 = or_false_right (test S1) (list_any test (S2 ∷ G1 ∷ G2 ∷ [])) none

  but_s : list_any test (G1 ∷ G2 ∷ []) ≡ false
  but_s = or_false_right (test S2) (list_any test (G1 ∷ G2 ∷ [])) but_s1

  go : (l : Lane) → test l ≡ false
  go S1 = or_false_left (test S1) (list_any test (S2 ∷ G1 ∷ G2 ∷ [])) none
  go S2 = or_false_left (test S2) (list_any test (G1 ∷ G2 ∷ [])) but_s1
  go G1 = or_false_left (test G1) (list_any test (G2 ∷ [])) but_s
  go G2 = or_false_left (test G2) false (or_false_right (test G1) (list_any test (G2 ∷ [])) but_s)

-- nothing is kept where no reception is open
unkept : (s : Parts) → has_parts s ≡ false → (n : ℕ) → maps.get s n ≡ None
unkept s none n =
    let empty : maps.len s ≡ 0 = true_eq (maps.len s) 0 (not_false (maps.len s == 0) none) in
    ap (λ t. maps.get t n) (maps.empty_of_len s empty) ∙ maps.get-empty nat_cmp n

-- ---- parts of other transactions

-- a packet that isn't a part of this transaction is, where it is a part, one of another
of_another : (c : Config) (d : Direction) (name : Name) (p : SentPacket) (q : NamedPart)
    → is_part_of c d name p ≡ false
    → p.direction ≡ d
    → arrival_of c p ≡ APart q
    → ¬ (q.name ≡ name)
of_another c d name p q none way is same =
    let there : same_direction p.direction d ≡ true =
    ap (λ e. same_direction e d) way ∙ same_direction-refl d in
    let named : option_eq same_name (part_name (arrival_of c p)) (Some name) ≡ true =
    ap (λ a. option_eq same_name (part_name a) (Some name)) is
    ∙ ap (λ i. same_name i name) same ∙ same_name-refl name in
    let one : is_part_of c d name p ≡ true = λ j. there j && named j in
    cc

-- what the packet of a number is
at_place : (c : Config) (h : History) (d : Direction) (name : Name) (n : ℕ) (p : SentPacket)
    → slice_get (sent h) n ≡ Some p
    → is_part_at c h d name n ≡ is_part_of c d name p
at_place c h d name n p there = ap (λ o. option_map_or (is_part_of c d name) o false) there

-- nothing is on its way, or heard, of a transaction that is clear
unheard : (c : Config) (h : History) (d : Direction) (name : Name)
    → is_clear c h d name ≡ true
    → IsUnheard c h d name
unheard c h d name clear = record {
  held = λ n p q held there way is.
      let at : (is_held h n && is_part_at c h d name n) ≡ false =
      none_below (λ n. is_held h n && is_part_at c h d name n) (length (sent h)) n none_held
      (slice_get_within (sent h) n p there) in
      let here : is_part_at c h d name n ≡ false =
      ap (λ b. b && is_part_at c h d name n) (sym held) ∙ at in
      of_another c d name p q (sym (at_place c h d name n p there) ∙ here) way is;
  hands = λ l n p q e there way is.
      let here : is_part_at c h d name n ≡ false =
      ap (λ o. option_map_or (is_part_at c h d name) o false) (sym e)
      ∙ no_lane (λ l. option_map_or (is_part_at c h d name) (hand h l) false) l none_in_hand in
      of_another c d name p q (sym (at_place c h d name n p there) ∙ here) way is;
  heard = unkept (heard c h d name) (not_true (has_parts (heard c h d name)) (and_right on_way kept here));
} where
  on_way : Bool
  on_way = not (part_held c h d name || part_in_hand c h d name)

  kept : Bool
  kept = not (has_parts (heard c h d name))

  here : (on_way && kept) ≡ true
  here = and_left (on_way && kept) (not (is_open (sender h d name))) clear

  none_there : (part_held c h d name || part_in_hand c h d name) ≡ false
  none_there =
      not_true (part_held c h d name || part_in_hand c h d name) (and_left on_way kept here)

  none_held : part_held c h d name ≡ false
  none_held = or_false_left (part_held c h d name) (part_in_hand c h d name) none_there

  none_in_hand : part_in_hand c h d name ≡ false
  none_in_hand = or_false_right (part_held c h d name) (part_in_hand c h d name) none_there

-- ---- the event

-- retirement pays what it owes
pub retire_owes : (c : Config) (first : Contents) (h : History) (d : Direction) (name : Name)
    → IsSound c h
    → refusal c h (Retire d name) ≡ None
    → Owes c h (entry c first h (Retire d name))
retire_owes c first h d name sound accepted =
    let t =
    three_pass (is_free (sender h d name)) (is_open (sender h d name)) (not (is_clear c h d name))
    NotOpen StillOpen NotClear accepted in
    let none : IsUnheard c h d name = unheard c h d name (not_false (is_clear c h d name) t.2) in
    record {
      opens = λ e j u f. absurd cc;
      retires = λ e j r.
          let way : d ≡ e =
          same_direction-true d e (and_left (same_direction d e) (same_name name j) r) in
          let named : name ≡ j =
          same_name-true name j (and_right (same_direction d e) (same_name name j) r) in
          subst (λ i. IsUnheard c h e i) named (subst (λ f. IsUnheard c h f name) way none);
      puts = λ k p f. absurd (no_place k p f);
      takes = λ l n f. inl f;
      hears = λ e j. inl refl;
      clocks = sound.clocks;
    }
