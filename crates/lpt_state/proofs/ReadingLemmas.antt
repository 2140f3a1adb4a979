-- Octets that pass each test are the spelling of what they say.
use Rattle.std.proofs.Common.{◌≡◌, ◌∙◌, refl, ap, sym, ℕ, ◌+◌, ◌-◌, ◌*◌, ◌<◌, ◌≤◌, ◌^◌, ◌==◌, nat_lt, Bool, true, false, not, if◌then◌else◌, List, ◌∷◌, ◌++◌, length, take, drop, get_or, arith, Result, Ok, Err, length-append, length-drop, length-take, take-append-drop}
use Rattle.std.proofs.lemmas.List.{drop-drop}
use Rattle.std.proofs.Math.Seq.{take-append_seam}
use Rattle.lpt_events.specs.declared.config.Config.{Config}
use Rattle.lpt_events.specs.declared.side.Side.{Side}
use Rattle.lpt_packet.proofs.Codec.{drop-last_word}
use Rattle.lpt_packet.proofs.OctetLists.{IsOctets-drop, IsOctets-take}
use Rattle.lpt_packet.proofs.Readings.{not_lt, true_eq}
use Rattle.lpt_packet.specs.Checksums.{checksum}
use Rattle.lpt_packet.specs.Numbers.{be, word_at, IsOctets}
use Rattle.lpt_pus.specs.Numbers.{long_at}
use Rattle.lpt_state.specs.declared.fault.StateFault.{StateFault}
use Rattle.lpt_state.specs.Lastings.{Lasting}
use Rattle.lpt_state.specs.Spellings.{around, config_octets, front, length_with, runs_octets, side_octet, spelling, tag, version}
use Rattle.lpt_state.specs.Verdicts.{both_ascend, great_at, is_sealed, last_boot, lasting_at, received_count, runs_part, sent_count, stands_at, verdict}
use Rattle.lpt_state.proofs.NumberLemmas.{great_cells, held, long_cells, one_cell}
use Rattle.lpt_state.proofs.RunLemmas.{sixes_again}
use Rattle.lpt_state.proofs.SpellingLemmas.{chain, length-front, runs_of_both, verdict_is}

-- ---- the tests that octets have passed

-- what octets that are read have passed
pub record Passed (side : Side) (c : Config) (b : List ℕ) (s : Lasting) : Type 0 where
  pub long : around ≤ length b
  pub tagged : stands_at b 0 tag ≡ true
  pub versioned : get_or b 4 0 ≡ version
  pub whole : length b ≡ length_with (sent_count b + received_count b)
  pub sided : get_or b 5 0 ≡ side_octet side
  pub configured : stands_at b 6 (config_octets c) ≡ true
  pub sealed : checksum (take (length b - 2) b) ≡ word_at b (length b - 2)
  pub ascends : both_ascend s ≡ true
  pub same : lasting_at b ≡ s

-- the test before others was passed, and so were those
guard : (t : Bool) (e : StateFault) (r : Result Lasting StateFault) (s : Lasting)
    → (if not t then Err e else r) ≡ Ok s
    → (t ≡ true) × (r ≡ Ok s)
guard true e r s h = (refl, h)
guard false e r s h = absurd cc

guard_not : (t : Bool) (e : StateFault) (r : Result Lasting StateFault) (s : Lasting)
    → (if t then Err e else r) ≡ Ok s
    → (t ≡ false) × (r ≡ Ok s)
guard_not true e r s h = absurd cc
guard_not false e r s h = (refl, h)

ok_same : (s t : Lasting) → ◌≡◌ {A = Result Lasting StateFault} (Ok s) (Ok t) → s ≡ t
ok_same s t h = cc

pub passed : (side : Side) (c : Config) (b : List ℕ) (s : Lasting) → verdict side c b ≡ Ok s
    → Passed side c b s
passed side c b s h =
    let a1 = guard_not (nat_lt (length b) around) _ _ s (sym (verdict_is side c b) ∙ h) in
    let a2 = guard (stands_at b 0 tag) _ _ s a1.1 in
    let a3 = guard (get_or b 4 0 == version) _ _ s a2.1 in
    let a4 = guard (length b == length_with (sent_count b + received_count b)) _ _ s a3.1 in
    let a5 = guard (get_or b 5 0 == side_octet side) _ _ s a4.1 in
    let a6 = guard (stands_at b 6 (config_octets c)) _ _ s a5.1 in
    let a7 = guard (is_sealed b) _ _ s a6.1 in
    let a8 = guard_not (great_at b 15 == last_boot) _ _ s a7.1 in
    let a9 = guard (both_ascend (lasting_at b)) _ _ s a8.1 in
    let is : lasting_at b ≡ s = ok_same (lasting_at b) s a9.1 in record {
      long = not_lt (length b) around a1.0;
      tagged = a2.0;
      versioned = true_eq (get_or b 4 0) version a3.0;
      whole = true_eq (length b) (length_with (sent_count b + received_count b)) a4.0;
      sided = true_eq (get_or b 5 0) (side_octet side) a5.0;
      configured = a6.0;
      sealed = true_eq (checksum (take (length b - 2) b)) (word_at b (length b - 2)) a7.0;
      ascends = ap both_ascend (sym is) ∙ a9.0;
      same = is;
    }

-- ---- piece by piece

module _ (side : Side) (c : Config) (b : List ℕ) (s : Lasting) (p : Passed side c b s)
    (o : IsOctets b) where
  length-part : length (runs_part b) ≡ 6 * (sent_count b + received_count b)
  length-part =
      omega (arith, p.whole, length-take (length b - around) (drop 43 b), length-drop 43 b)

  -- the runs of each direction
  sent_part : (runs_octets (lasting_at b).sent ≡ take (6 * sent_count b) (runs_part b))
      × (length (lasting_at b).sent ≡ sent_count b)
  sent_part =
      sixes_again (take (6 * sent_count b) (runs_part b)) (sent_count b)
      (omega (arith, length-part, length-take (6 * sent_count b) (runs_part b)))
      (IsOctets-take (6 * sent_count b) (runs_part b)
      (IsOctets-take (length b - around) (drop 43 b) (IsOctets-drop 43 b o)))

  received_part : (runs_octets (lasting_at b).received ≡ drop (6 * sent_count b) (runs_part b))
      × (length (lasting_at b).received ≡ received_count b)
  received_part =
      sixes_again (drop (6 * sent_count b) (runs_part b)) (received_count b)
      (omega (arith, length-part, length-drop (6 * sent_count b) (runs_part b)))
      (IsOctets-drop (6 * sent_count b) (runs_part b)
      (IsOctets-take (length b - around) (drop 43 b) (IsOctets-drop 43 b o)))

  both : runs_part b ≡ runs_of_both (lasting_at b)
  both =
      sym (take-append-drop (6 * sent_count b) (runs_part b))
      ∙ (λ i. sym sent_part.0 i ++ sym received_part.0 i)

  from_43 : drop 43 b ≡ runs_of_both (lasting_at b) ++ drop (length b - 2) b
  from_43 =
      let end : 43 + (length b - around) ≡ length b - 2 = omega (arith, p.long) in
      sym (take-append-drop (length b - around) (drop 43 b))
      ∙ (λ i. both i ++ drop (length b - around) (drop 43 b))
      ∙ ap (λ (t : List ℕ). runs_of_both (lasting_at b) ++ t)
      (drop-drop (length b - around) 43 b ∙ ap (λ (n : ℕ). drop n b) end)

  from_15 : drop 15 b
      ≡ be (great_at b 15) 8 ++ (be (long_at b 23) 4
      ++ (be (sent_count b) 8 ++ (be (received_count b) 8
      ++ (runs_of_both (lasting_at b) ++ drop (length b - 2) b))))
  from_15 =
      great_cells b 15 (omega (arith, p.long)) o
      ∙ ap (λ (t : List ℕ). be (great_at b 15) 8 ++ t) (long_cells b 23 (omega (arith, p.long)) o
      ∙ ap (λ (t : List ℕ). be (long_at b 23) 4 ++ t) (great_cells b 27 (omega (arith, p.long)) o
      ∙ ap (λ (t : List ℕ). be (sent_count b) 8 ++ t) (great_cells b 35 (omega (arith, p.long)) o
      ∙ ap (λ (t : List ℕ). be (received_count b) 8 ++ t) from_43)))

  -- so they are its front, with octets behind
  in_parts : b ≡ front side c (lasting_at b) ++ drop (length b - 2) b
  in_parts =
      held b 0 tag p.tagged
      ∙ ap (λ (t : List ℕ). tag ++ t) (one_cell b 4 (omega (arith, p.long))
      ∙ (λ i. p.versioned i ∷ (one_cell b 5 (omega (arith, p.long)) ∙ (λ j. p.sided j ∷ drop 6 b))
      i))
      ∙ ap (λ (t : List ℕ). tag ++ version ∷ side_octet side ∷ t)
      (held b 6 (config_octets c) p.configured
      ∙ ap (λ (t : List ℕ). config_octets c ++ t) from_15)
      ∙ (λ i. tag ++ version ∷ side_octet side
      ∷ (config_octets c ++ (be (great_at b 15) 8 ++ (be (long_at b 23) 4
      ++ (be (sym sent_part.1 i) 8 ++
      (be (sym received_part.1 i) 8 ++
      (runs_of_both (lasting_at b) ++ drop (length b - 2) b)))))))

  pub spelled_again : b ≡ spelling side c (lasting_at b)
  unfolding spelling
  spelled_again =
      let f : List ℕ = front side c (lasting_at b) in
      let sizes : length f ≡ length b - 2 =
      omega (arith, p.whole, length-front side c (lasting_at b), sent_part.1, received_part.1) in
      let before : take (length b - 2) b ≡ f =
      (λ i. take (sym sizes i) (in_parts i)) ∙ take-append_seam f (drop (length b - 2) b) in
      let behind : drop (length b - 2) b ≡ be (word_at b (length b - 2)) 2 =
      drop-last_word b (length b - 2) o (omega (arith, p.long)) in
      in_parts
      ∙ ap (λ (t : List ℕ). f ++ t) (behind
      ∙ ap (λ (n : ℕ). be n 2) (sym p.sealed ∙ ap checksum before))
