-- A spelling has its fields at their places, and passes each test.
use Rattle.std.proofs.Common.{◌≡◌, ◌∙◌, refl, ap, sym, ℕ, ◌+◌, ◌-◌, ◌*◌, ◌/◌, ◌%◌, ◌<◌, ◌^◌, ◌==◌, nat_lt, Bool, true, false, not, if◌then◌else◌, List, [], ◌∷◌, ◌++◌, length, take, drop, get_or, arith, Result, Ok, Err, length-append}
use Rattle.std.proofs.lemmas.List.{get_or-append-add}
use Rattle.std.proofs.Math.Seq.{drop-append_seam, get_or-append_seam, take-append_seam}
use Rattle.lpt_events.specs.declared.config.Config.{Config}
use Rattle.lpt_events.specs.declared.side.Side.{Side}
use Rattle.lpt_ledger.specs.declared.run.NameRun.{NameRun}
use Rattle.lpt_packet.proofs.Readings.{eq_false, eq_true, lt_false}
use Rattle.lpt_packet.proofs.Registers.{checksum-fits}
use Rattle.lpt_packet.proofs.SightLemmas.{same_octets-refl}
use Rattle.lpt_packet.specs.Checksums.{checksum}
use Rattle.lpt_packet.specs.Numbers.{be, word_at}
use Rattle.lpt_pus.specs.Numbers.{long_at}
use Rattle.lpt_state.specs.declared.fault.StateFault.{StateFault}
use Rattle.lpt_state.specs.declared.fault.StateFault.TheVariants as fault
use Rattle.lpt_state.specs.Lastings.{Fits, Lasting}
use Rattle.lpt_state.specs.Spellings.{around, config_octets, front, head_octets, length_with, number_octets, runs_octets, side_octet, spelling, tag, version}
use Rattle.lpt_state.specs.Verdicts.{both_ascend, great_at, is_sealed, last_boot, lasting_at, received_count, runs_in, runs_part, sent_count, stands_at, verdict}
use Rattle.lpt_state.proofs.NumberLemmas.{great_back, long_back}
use Rattle.lpt_state.proofs.RunLemmas.{length-runs_octets, runs_again}

-- the octets of all runs
abbrev pub runs_of_both : Lasting → List ℕ
runs_of_both s = runs_octets s.sent ++ runs_octets s.received

length-both : (s : Lasting) → length (runs_of_both s) ≡ 6 * (length s.sent + length s.received)
length-both s =
    omega (
      arith,
      length-append (runs_octets s.sent) (runs_octets s.received),
      length-runs_octets s.sent,
      length-runs_octets s.received,
    )

pub length-front : (side : Side) (c : Config) (s : Lasting)
    → length (front side c s) ≡ 43 + 6 * (length s.sent + length s.received)
length-front side c s = omega (arith, length-both s)

pub length-spelling : (side : Side) (c : Config) (s : Lasting)
    → length (spelling side c s) ≡ length_with (length s.sent + length s.received)
unfolding spelling
length-spelling side c s =
    omega (
      arith,
      length-append (front side c s) (be (checksum (front side c s)) 2),
      length-front
          side c s,
    )

-- ---- the fields at their places

module _ (side : Side) (c : Config) (s : Lasting) (fits : Fits s) where
  boot_back : great_at (spelling side c s) 15 ≡ s.boot
  unfolding spelling
  boot_back = great_back s.boot fits.boot_fits

  clock_back : long_at (spelling side c s) 23 ≡ s.clock
  unfolding spelling
  clock_back = long_back s.clock [] fits.clock_fits

  sent_back : sent_count (spelling side c s) ≡ length s.sent
  unfolding spelling
  sent_back = great_back (length s.sent) fits.sent_fit.few

  received_back : received_count (spelling side c s) ≡ length s.received
  unfolding spelling
  received_back = great_back (length s.received) fits.received_fit.few

  part_back : runs_part (spelling side c s) ≡ runs_of_both s
  unfolding spelling
  part_back =
      let seal : List ℕ = be (checksum (front side c s)) 2 in
      let long : length (spelling side c s) - around ≡ length (runs_of_both s) =
      omega (arith, length-spelling side c s, length-both s) in
      ap (λ (n : ℕ). take n (runs_of_both s ++ seal)) long ∙ take-append_seam (runs_of_both s) seal

  runs_back : (6 * sent_count (spelling side c s) ≡ length (runs_octets s.sent))
  runs_back = ap (λ (n : ℕ). 6 * n) sent_back ∙ sym (length-runs_octets s.sent)

  sent_runs : runs_in (take (6 * sent_count (spelling side c s)) (runs_part (spelling side c s)))
      ≡ s.sent
  sent_runs =
      (λ i. runs_in (take (runs_back i) (part_back i)))
      ∙ ap runs_in (take-append_seam (runs_octets s.sent) (runs_octets s.received))
      ∙ runs_again s.sent fits.sent_fit.fit

  received_runs : runs_in (drop (6 * sent_count (spelling side c s))
      (runs_part (spelling side c s))) ≡ s.received
  received_runs =
      (λ i. runs_in (drop (runs_back i) (part_back i)))
      ∙ ap runs_in (drop-append_seam (runs_octets s.sent) (runs_octets s.received))
      ∙ runs_again s.received fits.received_fit.fit

  lasting_back : lasting_at (spelling side c s) ≡ s
  lasting_back = λ i. record {
    boot = boot_back i;
    clock = clock_back i;
    sent = sent_runs i;
    received = received_runs i;
  }

  -- ---- the tests

  sealed_back : is_sealed (spelling side c s) ≡ true
  unfolding spelling
  sealed_back =
      let f : List ℕ = front side c s in
      let n : ℕ = checksum f in
      let e : length (spelling side c s) - 2 ≡ length f =
      omega (arith, length-spelling side c s, length-front side c s) in
      let high : get_or (f ++ be n 2) (length f) 0
      ≡ n / 256 % 256 = get_or-append_seam f (n / 256 % 256) (n % 256 ∷ []) 0 in
      let low : get_or (f ++ be n 2) (length f + 1) 0
      ≡ n % 256 = get_or-append-add f (be n 2) 1 0 in
      let small : n < 65536 = checksum-fits f in
      let before : take (length (spelling side c s) - 2) (f ++ be n 2) ≡ f =
      ap (λ (k : ℕ). take k (f ++ be n 2)) e ∙ take-append_seam f (be n 2) in
      let behind : word_at (f ++ be n 2) (length (spelling side c s) - 2) ≡ n =
      ap (λ (k : ℕ). word_at (f ++ be n 2) k) e ∙ omega (arith, high, low) in
      eq_true _ _ (ap checksum before ∙ sym behind)

-- the reader's answer from those of its tests
abbrev pub chain : (short tagged versioned long sided configured sealed last ascends : Bool)
    → Lasting → Result Lasting StateFault
chain short tagged versioned long sided configured sealed last ascends s =
    if short then Err fault.Short
    else if not tagged then Err fault.Tag
    else if not versioned then Err fault.Version
    else if not long then Err fault.Length
    else if not sided then Err fault.Side
    else if not configured then Err fault.Config
    else if not sealed then Err fault.Checksum
    else if last then Err fault.Boot
    else if not ascends then Err fault.Order
    else Ok s

pub verdict_is : (side : Side) (c : Config) (b : List ℕ)
    → verdict side c b
    ≡ chain (nat_lt (length b) around) (stands_at b 0 tag) (get_or b 4 0 == version)
    (length b == length_with (sent_count b + received_count b)) (get_or b 5 0 == side_octet side)
    (stands_at b 6 (config_octets c)) (is_sealed b) (great_at b 15 == last_boot)
    (both_ascend (lasting_at b)) (lasting_at b)
unfolding verdict
verdict_is side c b = refl

-- a spelling is read
pub written_again : (side : Side) (c : Config) (s : Lasting)
    → Fits s
    → s.boot + 1 < 2 ^ 64
    → both_ascend s ≡ true
    → verdict side c (spelling side c s) ≡ Ok s
unfolding spelling
written_again side c s fits next ascends =
    let b : List ℕ = spelling side c s in
    let not_short : nat_lt (length b) around
    ≡ false = lt_false (length b) around (omega (arith, length-spelling side c s)) in
    let tagged : stands_at b 0 tag ≡ true = same_octets-refl tag in
    let versioned : (get_or b 4 0 == version) ≡ true = eq_true (get_or b 4 0) version refl in
    let long : (length b == length_with (sent_count b + received_count b)) ≡ true =
    eq_true _ _ (length-spelling side c s
    ∙ (λ i. length_with (sym (sent_back side c s fits) i + sym (received_back side c s fits)
    i))) in
    let sided : (get_or b 5 0 == side_octet side) ≡ true =
    eq_true (get_or b 5 0) (side_octet side) refl in
    let configured : stands_at b 6 (config_octets c) ≡ true = same_octets-refl (config_octets c) in
    let followed : (great_at b 15 == last_boot) ≡ false =
    ap (λ (n : ℕ). n == last_boot) (boot_back side c s fits)
    ∙ eq_false s.boot last_boot (omega (arith, next)) in
    let rising : both_ascend (lasting_at b) ≡ true = ap both_ascend (lasting_back side c s fits)
    ∙ ascends in
    verdict_is side c b
    ∙ (λ i. chain (not_short i) (tagged i) (versioned i) (long i) (sided i) (configured i)
    (sealed_back side c s fits i) (followed i) (rising i) (lasting_back side c s fits i))
