-- An octet shifted in at once: the upper octet, which falls out of the register, is added to it.
-- All sums of registers and octets here are without carry: the exclusive or.
use Rattle.std.proofs.Common.{◌≡◌, ◌∙◌, ap, sym, refl, ℕ, ◌+◌, ◌*◌, ◌/◌, ◌%◌, ◌<◌, List, [], ◌∷◌, arith, rules}
use Rattle.std.specs.Int.Bits.{bit_xor, xor_assoc, xor_zero_r}
use Rattle.std.proofs.lemmas.Nat.{xor_block, xor_mod, xor_of_16, xor_shr}
use Rattle.std.proofs.lemmas.Nat.Bits.{bit_at_xor}
use Rattle.lpt_packet.specs.Checksums.{shift, bits, shift_all}
use Rattle.lpt_packet.proofs.Registers.{shift_fits}
use Rattle.lpt_packet.proofs.Shifts.{AreBits, taken, test, xor_of_bits, shift_is}

-- ---- one bit into the sum of two registers

doubled_sum : (r s : ℕ) → bit_xor r s * 2 ≡ bit_xor (r * 2) (s * 2)
doubled_sum r s = grind (arith, xor_block 1 r s 0 0 (omega arith) (omega arith))

-- to move a sum is to move both
pub moved_sum : (r s : ℕ) → bit_xor r s * 2 % 65536 ≡ bit_xor (r * 2 % 65536) (s * 2 % 65536)
moved_sum r s = ap (λ (n : ℕ). n % 65536) (doubled_sum r s) ∙ xor_mod (r * 2) (s * 2) 16

-- the bit that falls out of one register is as good as one that comes into the other
pub test_sum : (r s b : ℕ)
    → r < 65536
    → s < 65536
    → test (bit_xor r s) b ≡ test s ((r / 32768 + b) % 2)
test_sum r s b hr hs =
    let top : bit_xor r s / 32768 ≡ (r / 32768 + s / 32768) % 2 =
    xor_shr r s 15 ∙ xor_of_bits (r / 32768) (s / 32768) (omega arith) (omega arith) in
    omega (arith, top)

-- so one register only moves, and the other takes the bit that fell out of it too
shift_sum : (r s b : ℕ)
    → r < 65536
    → s < 65536
    → b < 2
    → shift (bit_xor r s) b ≡ bit_xor (r * 2 % 65536) (shift s ((r / 32768 + b) % 2))
shift_sum r s b hr hs hb =
    let m : ℕ = r * 2 % 65536 in
    let n : ℕ = s * 2 % 65536 in
    let c : ℕ = (r / 32768 + b) % 2 in
    shift_is (bit_xor r s) b (xor_of_16 r s hr hs) hb
    ∙ ap (λ (k : ℕ). bit_xor k (taken (test (bit_xor r s) b))) (moved_sum r s)
    ∙ ap (λ (p : ℕ). bit_xor (bit_xor m n) (taken p)) (test_sum r s b hr hs)
    ∙ xor_assoc m n (taken (test s c))
    ∙ ap (bit_xor m) (sym (shift_is s c hs (omega arith)))

-- ---- many bits

-- the register that only moves, after as many moves as there are bits
abbrev moved : ℕ → List ℕ → ℕ
moved r [] = r
moved r (b ∷ rest) = moved (r * 2 % 65536) rest

-- the bits, each with the bit added that falls out of this register
abbrev mixed : ℕ → List ℕ → List ℕ
mixed r [] = []
mixed r (b ∷ rest) = (r / 32768 + b) % 2 ∷ mixed (r * 2 % 65536) rest

-- many bits into the sum of two registers
shift_all_sum : (bs : List ℕ) (r s : ℕ)
    → AreBits bs
    → r < 65536
    → s < 65536
    → shift_all (bit_xor r s) bs ≡ bit_xor (moved r bs) (shift_all s (mixed r bs))
unfolding shift_all
shift_all_sum [] r s h hr hs = refl
shift_all_sum (b ∷ bs) r s h hr hs =
    let c : ℕ = (r / 32768 + b) % 2 in
    ap (λ (m : ℕ). shift_all m bs) (shift_sum r s b hr hs h.0)
    ∙ shift_all_sum bs (r * 2 % 65536) (shift s c) h.1 (omega arith) (shift_fits s c)

-- ---- the bits of an octet

-- lists of the same first element and the same rest
pub cons_same : {x y : ℕ} {xs ys : List ℕ} → x ≡ y → xs ≡ ys → x ∷ xs ≡ y ∷ ys
cons_same p q = cc

-- the bits that fall out are those of the upper octet
mixed_octet : (r o : ℕ) → r < 65536 → mixed r (bits o) ≡ bits (bit_xor (r / 256) o)
mixed_octet r o h =
    cons_same (omega (arith, bit_at_xor (r / 256) o 7)) (
    cons_same (omega (arith, bit_at_xor (r / 256) o 6)) (
    cons_same (omega (arith, bit_at_xor (r / 256) o 5)) (
    cons_same (omega (arith, bit_at_xor (r / 256) o 4)) (
    cons_same (omega (arith, bit_at_xor (r / 256) o 3)) (
    cons_same (omega (arith, bit_at_xor (r / 256) o 2)) (
    cons_same (omega (arith, bit_at_xor (r / 256) o 1)) (
    cons_same (omega (arith, bit_at_xor (r / 256) o 0)) refl)))))))

-- an octet goes into a register as it does, with the upper octet added to it, into one of zeros
pub octet_sum : (r o : ℕ)
    → r < 65536
    → shift_all r (bits o)
    ≡ bit_xor (r * 256 % 65536) (shift_all 0 (bits (bit_xor (r / 256) o)))
octet_sum r o h =
    let are_bits : AreBits (bits o) = search rules in
    let left : moved r (bits o) ≡ r * 256 % 65536 = omega arith in
    ap (λ (n : ℕ). shift_all n (bits o)) (sym (xor_zero_r r))
    ∙ shift_all_sum (bits o) r 0 are_bits h (omega arith)
    ∙ ap (λ (m : ℕ). bit_xor m (shift_all 0 (mixed r (bits o)))) left
    ∙ ap (λ (bs : List ℕ). bit_xor (r * 256 % 65536) (shift_all 0 bs)) (mixed_octet r o h)
