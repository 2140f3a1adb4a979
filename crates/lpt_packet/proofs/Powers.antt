-- The polynomial's 64th power: what 16, 12, 5 and no words of zeros make of a register add up to
-- nothing. All sums here are without carry.
use Rattle.std.proofs.Common.{◌≡◌, ◌∙◌, ap, sym, refl, ℕ, zero, suc, ◌*◌, ◌/◌, ◌%◌, ◌<◌, ◌≤◌, replicate, arith}
use Rattle.std.specs.Int.Bits.{bit_xor, xor_zero_l, xor_zero_r}
use Rattle.std.proofs.lemmas.Nat.{xor_block, xor_of_16}
use Rattle.lpt_packet.specs.Checksums.{shift, bits, shift_all, octets_in}
use Rattle.lpt_packet.specs.Words.{word_in}
use Rattle.lpt_packet.proofs.Registers.{shift_fits}
use Rattle.lpt_packet.proofs.Shifts.{taken, test, shift_is}
use Rattle.lpt_packet.proofs.Slices.{exchange, shift_parts}
use Rattle.lpt_packet.proofs.WordSums.{word_both, word_in-fits}

-- ---- words of zeros

-- a register after so many words of zeros
abbrev pub behind : ℕ → ℕ → ℕ
behind r zero = r
behind r (suc n) = behind (word_in r 0) n

pub behind-fits : (n r : ℕ) → r < 65536 → behind r n < 65536
behind-fits zero r h = h
behind-fits (suc n) r h = behind-fits n (word_in r 0) (word_in-fits r 0 h)

-- the sum of two registers
pub behind-sum : (n r s : ℕ)
    → r < 65536
    → s < 65536
    → behind (bit_xor r s) n ≡ bit_xor (behind r n) (behind s n)
behind-sum zero r s hr hs = refl
behind-sum (suc n) r s hr hs =
    ap (λ (m : ℕ). behind m n) (word_both 0 0 r s hr hs)
    ∙ behind-sum n (word_in r 0) (word_in s 0) (word_in-fits r 0 hr) (word_in-fits s 0 hs)

octets-shift : (n r : ℕ)
    → octets_in (shift r 0) (replicate n 0) ≡ shift (octets_in r (replicate n 0)) 0
unfolding octets_in shift_all
octets-shift zero r = refl
octets-shift (suc n) r = octets-shift n (shift_all r (bits 0))

-- one bit of zeros more, in front of them or behind
behind-shift : (n r : ℕ) → behind (shift r 0) n ≡ shift (behind r n) 0
behind-shift zero r = refl
behind-shift (suc n) r =
    ap (λ (m : ℕ). behind m n) (octets-shift 8 r) ∙ behind-shift n (word_in r 0)

-- ---- the power

-- x^1024 + x^768 + x^320 + 1 times a register
abbrev pub power : ℕ → ℕ
power r = bit_xor (bit_xor (bit_xor (behind r 16) (behind r 12)) (behind r 5)) r

-- the one fact that is computed
of_one : power 1 ≡ 0
unfolding octets_in shift_all
of_one = refl

of_none : power 0 ≡ 0
unfolding octets_in shift_all
of_none = refl

four : (a b c d e f g h : ℕ)
    → bit_xor (bit_xor (bit_xor (bit_xor a b) (bit_xor c d)) (bit_xor e f)) (bit_xor g h)
    ≡ bit_xor (bit_xor (bit_xor (bit_xor a c) e) g) (bit_xor (bit_xor (bit_xor b d) f) h)
four a b c d e f g h =
    ap (λ (x : ℕ). bit_xor (bit_xor x (bit_xor e f)) (bit_xor g h)) (exchange a b c d)
    ∙ ap (λ (x : ℕ). bit_xor x (bit_xor g h)) (exchange (bit_xor a c) (bit_xor b d) e f)
    ∙ exchange (bit_xor (bit_xor a c) e) (bit_xor (bit_xor b d) f) g h

power-sum : (r s : ℕ)
    → r < 65536
    → s < 65536
    → power (bit_xor r s) ≡ bit_xor (power r) (power s)
power-sum r s hr hs =
    let sum : (n : ℕ) → behind (bit_xor r s) n ≡ bit_xor (behind r n) (behind s n) =
    λ n. behind-sum n r s hr hs in
    (λ i. bit_xor (bit_xor (bit_xor (sum 16 i) (sum 12 i)) (sum 5 i)) (bit_xor r s))
    ∙ four (behind r 16) (behind s 16) (behind r 12) (behind s 12) (behind r 5) (behind s 5) r s

-- four registers, each with a bit of zeros more
four-shift : (a b c d : ℕ)
    → a < 65536
    → b < 65536
    → c < 65536
    → d < 65536
    → bit_xor (bit_xor (bit_xor (shift a 0) (shift b 0)) (shift c 0)) (shift d 0)
    ≡ shift (bit_xor (bit_xor (bit_xor a b) c) d) 0
four-shift a b c d ha hb hc hd =
    let two : bit_xor a b < 65536 = xor_of_16 a b ha hb in
    let three : bit_xor (bit_xor a b) c < 65536 = xor_of_16 (bit_xor a b) c two hc in
    let first : shift (bit_xor a b) 0 ≡ bit_xor (shift a 0) (shift b 0) =
    shift_parts a b 0 ha hb (omega arith) in
    let second : shift (bit_xor (bit_xor a b) c) 0 ≡ bit_xor (shift (bit_xor a b) 0) (shift c 0) =
    shift_parts (bit_xor a b) c 0 two hc (omega arith) in
    ap (λ (x : ℕ). bit_xor (bit_xor x (shift c 0)) (shift d 0)) (sym first)
    ∙ ap (λ (x : ℕ). bit_xor x (shift d 0)) (sym second)
    ∙ sym (shift_parts (bit_xor (bit_xor a b) c) d 0 three hd (omega arith))

power-shift : (r : ℕ) → r < 65536 → power (shift r 0) ≡ shift (power r) 0
power-shift r h =
    let one : (n : ℕ) → behind (shift r 0) n ≡ shift (behind r n) 0 = λ n. behind-shift n r in
    (λ i. bit_xor (bit_xor (bit_xor (one 16 i) (one 12 i)) (one 5 i)) (shift r 0))
    ∙ four-shift (behind r 16) (behind r 12) (behind r 5) r
    (behind-fits 16 r h) (behind-fits 12 r h) (behind-fits 5 r h) h

-- ---- any register, by its bits

-- a register without its highest bit, moved
doubled : (a : ℕ) → a < 32768 → shift a 0 ≡ a * 2
doubled a h =
    let moved : a * 2 % 65536 ≡ a * 2 = omega arith in
    let none : test a 0 ≡ 0 = omega arith in
    shift_is a 0 (omega arith) (omega arith)
    ∙ ap (λ (n : ℕ). bit_xor n (taken (test a 0))) moved
    ∙ ap (λ (p : ℕ). bit_xor (a * 2) (taken p)) none
    ∙ xor_zero_r (a * 2)

-- its lowest bit, and the others
split : (r : ℕ) → bit_xor (r / 2 * 2) (r % 2) ≡ r
split r =
    grind (
      arith,
      xor_block 1 (r / 2) 0 0 (r % 2) (omega arith) (omega arith),
      xor_zero_r (r / 2),
      xor_zero_l (r % 2),
    )

of_bit : (b : ℕ) → b < 2 → power b ≡ 0
of_bit zero h = of_none
of_bit (suc zero) h = of_one
of_bit (suc (suc b)) h = absurd (omega arith)

of_all : (n r : ℕ) → r ≤ n → r < 65536 → power r ≡ 0
of_all zero r l h =
    let none : r ≡ 0 = omega arith in
    ap power none ∙ of_none
of_all (suc n) r l h =
    let half : ℕ = r / 2 in
    let bit : ℕ = r % 2 in
    let parts : r ≡ bit_xor (shift half 0) bit =
    sym (split r) ∙ ap (λ (x : ℕ). bit_xor x bit) (sym (doubled half (omega arith))) in
    ap power parts
    ∙ power-sum (shift half 0) bit (shift_fits half 0) (omega arith)
    ∙ ap (λ (x : ℕ). bit_xor x (power bit)) (power-shift half (omega arith))
    ∙ ap (λ (x : ℕ). bit_xor (shift x 0) (power bit)) (of_all n half (omega arith) (omega arith))
    ∙ ap (bit_xor 0) (of_bit bit (omega arith))

-- the sum is nothing
pub vanishes : (r : ℕ) → r < 65536 → power r ≡ 0
vanishes r h = of_all r r (omega arith) h
