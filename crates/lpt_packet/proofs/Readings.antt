-- What the reader's tests let through, and what they stop.
use Rattle.std.proofs.Common.{◌≡◌, ◌≢◌, ◌∙◌, ap, sym, ℕ, ◌+◌, ◌-◌, ◌*◌, ◌/◌, ◌%◌, ◌<◌, ◌≤◌, ◌==◌, nat_lt, Bool, true, false, if◌then◌else◌, List, [], ◌∷◌, ◌++◌, length, take, refl, arith, Result, Ok, Err, length-append}
use Rattle.std.proofs.lemmas.List.{append-nil}
use Rattle.std.proofs.lemmas.Bool.Decides.{nat_tests}
use Rattle.lpt_packet.specs.Packets.{Fields, spelling, IsPacket, IsIdle, Sight, IdlePacket, APacket, fields_at, verdict, packet_type}
use Rattle.lpt_packet.specs.Numbers.{word_at}
use Rattle.lpt_packet.specs.Checksums.{checksum}
use Rattle.lpt_packet.specs.Ranges.{InRange}
use Rattle.lpt_packet.proofs.Codec.{length-spelling, packet_type_small, word_at-0, word_at-2, word_at-4, word_at-4_before, front_of, last_of, fields_at-spelling}
use Rattle.lpt_packet.specs.declared.fault.PacketFault.{PacketFault}
use Rattle.lpt_packet.specs.declared.fault.PacketFault.TheVariants.{Short, Version, Length, Segmented, NoSecondary, Checksum}

-- ---- the tests as bits

-- the reader's answer from the answers of its tests
abbrev pub chain : (short version fits idle flags secondary bare seals : Bool) → Fields → Result Sight PacketFault
chain short version fits idle flags secondary bare seals f =
    if short then Err Short
    else if version then
    (if fits then
    (if idle then Ok IdlePacket
    else if flags then
    (if secondary then
    (if bare then Err Checksum
    else if seals then Ok (APacket f)
    else Err Checksum)
    else Err NoSecondary)
    else Err Segmented)
    else Err Length)
    else Err Version

pub verdict_is : (b : List ℕ) → verdict b ≡ chain (nat_lt (length b) 7) (word_at b 0 / 8192 == 0) (length b == 7 + word_at b 4) (word_at b 0 % 2048 == 2047) (word_at b 2 / 16384 == 3) (word_at b 0 / 2048 % 2 == 1) (nat_lt (length b) 8) (checksum (take (length b - 2) b) == word_at b (length b - 2)) (fields_at b)
unfolding verdict
verdict_is b = refl

-- the tests that a packet has passed
pub record Passed (short version fits idle flags secondary bare seals : Bool) (f g : Fields) : Type 0 where
  pub long : short ≡ false
  pub version_0 : version ≡ true
  pub length_fits : fits ≡ true
  pub not_idle : idle ≡ false
  pub unsegmented : flags ≡ true
  pub has_header : secondary ≡ true
  pub has_checksum : bare ≡ false
  pub sealed : seals ≡ true
  pub same : f ≡ g

pub passed : (a b c d e h i j : Bool) (f g : Fields) → chain a b c d e h i j f ≡ Ok (APacket g) → Passed a b c d e h i j f g
passed false true true false true true false true f g k = record { long = refl; version_0 = refl; length_fits = refl; not_idle = refl; unsegmented = refl; has_header = refl; has_checksum = refl; sealed = refl; same = cc }
passed true b c d e h i j f g k = absurd cc
passed false false c d e h i j f g k = absurd cc
passed false true false d e h i j f g k = absurd cc
passed false true true true e h i j f g k = absurd cc
passed false true true false false h i j f g k = absurd cc
passed false true true false true false i j f g k = absurd cc
passed false true true false true true true j f g k = absurd cc
passed false true true false true true false false f g k = absurd cc

-- the tests that an idle packet has passed
pub record PassedIdle (short version fits idle : Bool) : Type 0 where
  pub long : short ≡ false
  pub version_0 : version ≡ true
  pub length_fits : fits ≡ true
  pub idles : idle ≡ true

pub passed_idle : (a b c d e h i j : Bool) (f : Fields) → chain a b c d e h i j f ≡ Ok IdlePacket → PassedIdle a b c d
passed_idle false true true true e h i j f k = record { long = refl; version_0 = refl; length_fits = refl; idles = refl }
passed_idle true b c d e h i j f k = absurd cc
passed_idle false false c d e h i j f k = absurd cc
passed_idle false true false d e h i j f k = absurd cc
passed_idle false true true false false h i j f k = absurd cc
passed_idle false true true false true false i j f k = absurd cc
passed_idle false true true false true true true j f k = absurd cc
passed_idle false true true false true true false false f k = absurd cc
passed_idle false true true false true true false true f k = absurd cc

-- what octets that are read have passed
pub tests_passed : (b : List ℕ) (f : Fields) → verdict b ≡ Ok (APacket f)
    → Passed (nat_lt (length b) 7) (word_at b 0 / 8192 == 0) (length b == 7 + word_at b 4) (word_at b 0 % 2048 == 2047) (word_at b 2 / 16384 == 3) (word_at b 0 / 2048 % 2 == 1) (nat_lt (length b) 8) (checksum (take (length b - 2) b) == word_at b (length b - 2)) (fields_at b) f
tests_passed b f h = passed (nat_lt (length b) 7) (word_at b 0 / 8192 == 0) (length b == 7 + word_at b 4) (word_at b 0 % 2048 == 2047) (word_at b 2 / 16384 == 3) (word_at b 0 / 2048 % 2 == 1) (nat_lt (length b) 8) (checksum (take (length b - 2) b) == word_at b (length b - 2)) (fields_at b) f (sym (verdict_is b) ∙ h)

-- what idle octets have passed
pub tests_passed_idle : (b : List ℕ) → verdict b ≡ Ok IdlePacket
    → PassedIdle (nat_lt (length b) 7) (word_at b 0 / 8192 == 0) (length b == 7 + word_at b 4) (word_at b 0 % 2048 == 2047)
tests_passed_idle b h = passed_idle (nat_lt (length b) 7) (word_at b 0 / 8192 == 0) (length b == 7 + word_at b 4) (word_at b 0 % 2048 == 2047) (word_at b 2 / 16384 == 3) (word_at b 0 / 2048 % 2 == 1) (nat_lt (length b) 8) (checksum (take (length b - 2) b) == word_at b (length b - 2)) (fields_at b) (sym (verdict_is b) ∙ h)

-- ---- tests of numbers

pub lt_false : (a b : ℕ) → b ≤ a → nat_lt a b ≡ false
lt_false a b h = grind (arith, nat_tests)

pub not_lt : (a b : ℕ) → nat_lt a b ≡ false → b ≤ a
not_lt a b h = grind (arith, nat_tests)

pub eq_true : (a b : ℕ) → a ≡ b → (a == b) ≡ true
eq_true a b h = grind (arith, nat_tests)

pub eq_false : (a b : ℕ) → a ≢ b → (a == b) ≡ false
eq_false a b h = grind (arith, nat_tests)

pub true_eq : (a b : ℕ) → (a == b) ≡ true → a ≡ b
true_eq a b h = grind (arith, nat_tests)

pub false_eq : (a b : ℕ) → (a == b) ≡ false → a ≢ b
false_eq a b h = grind (arith, nat_tests)

-- ---- a packet is read, and an idle one seen

pub written_again : (f : Fields) → InRange f.apid f.count f.octets → verdict (spelling f) ≡ Ok (APacket f)
written_again f r =
    let b = spelling f in
    let long : length b ≡ length f.octets + 8 = length-spelling f in
    let first : word_at b 0 ≡ packet_type f.kind * 4096 + 2048 + f.apid = word_at-0 f r in
    let second : word_at b 2 ≡ 49152 + f.count = word_at-2 f r in
    let third : word_at b 4 ≡ length f.octets + 1 = word_at-4 f r in
    let small : packet_type f.kind < 2 = packet_type_small f.kind in
    let not_short : nat_lt (length b) 7 ≡ false = lt_false (length b) 7 (omega arith) in
    let version : (word_at b 0 / 8192 == 0) ≡ true = eq_true _ _ (omega arith) in
    let fits : (length b == 7 + word_at b 4) ≡ true = eq_true _ _ (omega arith) in
    let busy : (word_at b 0 % 2048 == 2047) ≡ false = eq_false _ _ (omega arith) in
    let flags : (word_at b 2 / 16384 == 3) ≡ true = eq_true _ _ (omega arith) in
    let secondary : (word_at b 0 / 2048 % 2 == 1) ≡ true = eq_true _ _ (omega arith) in
    let not_bare : nat_lt (length b) 8 ≡ false = lt_false (length b) 8 (omega arith) in
    let seals : (checksum (take (length b - 2) b) == word_at b (length b - 2)) ≡ true = eq_true _ _ (ap checksum (front_of f) ∙ sym (last_of f)) in
    verdict_is b ∙ (λ i. chain (not_short i) (version i) (fits i) (busy i) (flags i) (secondary i) (not_bare i) (seals i) (fields_at-spelling f r i))

pub packet_again : (b : List ℕ) (f : Fields) → IsPacket b f → verdict b ≡ Ok (APacket f)
packet_again b f h = ap verdict h.spelled ∙ written_again f h.ranges

pub idle_again : (b : List ℕ) → IsIdle b → verdict b ≡ Ok IdlePacket
idle_again b h =
    let not_short : nat_lt (length b) 7 ≡ false = lt_false (length b) 7 h.long in
    let version : (word_at b 0 / 8192 == 0) ≡ true = eq_true _ _ h.version in
    let fits : (length b == 7 + word_at b 4) ≡ true = eq_true _ _ h.data_length in
    let idles : (word_at b 0 % 2048 == 2047) ≡ true = eq_true _ _ h.apid in
    verdict_is b ∙ (λ i. chain (not_short i) (version i) (fits i) (idles i) (word_at b 2 / 16384 == 3) (word_at b 0 / 2048 % 2 == 1) (nat_lt (length b) 8) (checksum (take (length b - 2) b) == word_at b (length b - 2)) (fields_at b))

-- ---- no packet begins another

empty : (xs : List ℕ) → length xs ≡ 0 → xs ≡ []
empty [] h = refl
empty (x ∷ xs) h = absurd (omega arith)

pub no_prefix : (a b rest : List ℕ) (f g : Fields) → IsPacket a f → IsPacket b g → a ++ rest ≡ b → (rest ≡ []) × (f ≡ g)
no_prefix a b rest f g p q e =
    let joined : spelling f ++ rest ≡ spelling g = ap (λ x. x ++ rest) (sym p.spelled) ∙ e ∙ q.spelled in
    let word : word_at (spelling f ++ rest) 4 ≡ word_at (spelling g) 4 = ap (λ x. word_at x 4) joined in
    let third : word_at (spelling f ++ rest) 4 ≡ length f.octets + 1 = word_at-4_before f rest p.ranges in
    let other : word_at (spelling g) 4 ≡ length g.octets + 1 = word_at-4 g q.ranges in
    let sizes : length (spelling f) + length rest ≡ length (spelling g) = sym (length-append (spelling f) rest) ∙ ap length joined in
    let none : rest ≡ [] = empty rest (omega (arith, length-spelling f, length-spelling g)) in
    let same : a ≡ b = sym (append-nil a) ∙ ap (λ x. a ++ x) (sym none) ∙ e in
    let one : verdict b ≡ Ok (APacket f) = ap verdict (sym same) ∙ packet_again a f p in
    let two : verdict b ≡ Ok (APacket g) = packet_again b g q in
    (none, let s : f ≡ g = cc in s)
