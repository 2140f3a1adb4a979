-- Registers into which octets go, as sums of registers: all sums here are without carry.
use Rattle.std.proofs.Common.{◌≡◌, ◌∙◌, ap, sym, refl, ℕ, zero, suc, ◌+◌, ◌*◌, ◌/◌, ◌%◌, ◌<◌, List, [], ◌∷◌, length, arith, rules}
use Rattle.std.specs.Int.Bits.{bit_xor, xor_assoc, xor_comm, xor_self, xor_zero_l, xor_zero_r}
use Rattle.std.proofs.lemmas.Nat.{xor_block, xor_of_16}
use Rattle.lpt_packet.specs.Checksums.{shift, bits, shift_all, octets_in, checksum}
use Rattle.lpt_packet.proofs.Registers.{shift_fits, shift_all-fits}
use Rattle.lpt_packet.proofs.Shifts.{AreBits, taken, test, shift_is}
use Rattle.lpt_packet.proofs.Lookups.{moved_sum, test_sum}
use Rattle.lpt_stream.specs.Registers.{zeros_in}

-- ---- one bit

-- what two shifts take of the polynomial
both_taken : (p q : ℕ) → p < 2 → q < 2 → taken ((p + q) % 2) ≡ bit_xor (taken p) (taken q)
both_taken zero zero h k = refl
both_taken zero (suc zero) h k = refl
both_taken (suc zero) zero h k = refl
both_taken (suc zero) (suc zero) h k = refl
both_taken zero (suc (suc q)) h k = absurd (omega arith)
both_taken (suc zero) (suc (suc q)) h k = absurd (omega arith)
both_taken (suc (suc p)) q h k = absurd (omega arith)

crossed : (m n p q : ℕ)
    → bit_xor (bit_xor m n) (bit_xor p q)
    ≡ bit_xor (bit_xor m p) (bit_xor n q)
crossed m n p q =
    xor_assoc m n (bit_xor p q)
    ∙ ap (bit_xor m)
    (sym (xor_assoc n p q) ∙ ap (λ k. bit_xor k q) (xor_comm n p) ∙ xor_assoc p n q)
    ∙ sym (xor_assoc m p (bit_xor n q))

-- into a sum: one register takes a zero, and the other the bit
shift-sum : (r s b : ℕ)
    → r < 65536
    → s < 65536
    → b < 2
    → shift (bit_xor r s) b ≡ bit_xor (shift r 0) (shift s b)
shift-sum r s b hr hs hb =
    let m : ℕ = r * 2 % 65536 in
    let n : ℕ = s * 2 % 65536 in
    let p : ℕ = test r 0 in
    let q : ℕ = test s b in
    let tests : test (bit_xor r s) b ≡ (p + q) % 2 = test_sum r s b hr hs ∙ omega arith in
    shift_is (bit_xor r s) b (xor_of_16 r s hr hs) hb
    ∙ (λ i. bit_xor (moved_sum r s i) (taken (tests i)))
    ∙ ap (bit_xor (bit_xor m n)) (both_taken p q (omega arith) (omega arith))
    ∙ crossed m n (taken p) (taken q)
    ∙ sym (λ i. bit_xor (shift_is r 0 hr (omega arith) i) (shift_is s b hs hb i))

-- ---- octets

-- as many zeros as bits
abbrev nulls : List ℕ → List ℕ
nulls [] = []
nulls (b ∷ bs) = 0 ∷ nulls bs

bits-sum : (bs : List ℕ) (r s : ℕ)
    → AreBits bs
    → r < 65536
    → s < 65536
    → shift_all (bit_xor r s) bs ≡ bit_xor (shift_all r (nulls bs)) (shift_all s bs)
unfolding shift_all
bits-sum [] r s h hr hs = refl
bits-sum (b ∷ bs) r s h hr hs =
    ap (λ m. shift_all m bs) (shift-sum r s b hr hs h.0)
    ∙ bits-sum bs (shift r 0) (shift s b) h.1 (shift_fits r 0) (shift_fits s b)

octet-sum : (o r s : ℕ)
    → r < 65536
    → s < 65536
    → shift_all (bit_xor r s) (bits o) ≡ bit_xor (shift_all r (bits 0)) (shift_all s (bits o))
octet-sum o r s hr hs = bits-sum (bits o) r s (search rules) hr hs

-- one register takes zeros, and the other the octets
octets-sum : (xs : List ℕ) (r s : ℕ)
    → r < 65536
    → s < 65536
    → octets_in (bit_xor r s) xs ≡ bit_xor (zeros_in r (length xs)) (octets_in s xs)
unfolding octets_in
octets-sum [] r s hr hs = refl
octets-sum (x ∷ xs) r s hr hs =
    ap (λ m. octets_in m xs) (octet-sum x r s hr hs)
    ∙ octets-sum xs (shift_all r (bits 0)) (shift_all s (bits x))
    (shift_all-fits r (bits 0) hr) (shift_all-fits s (bits x) hs)

-- ---- zeros

zeros-sum : (n r s : ℕ)
    → r < 65536
    → s < 65536
    → zeros_in (bit_xor r s) n ≡ bit_xor (zeros_in r n) (zeros_in s n)
zeros-sum zero r s hr hs = refl
zeros-sum (suc n) r s hr hs =
    ap (λ m. zeros_in m n) (octet-sum 0 r s hr hs)
    ∙ zeros-sum n (shift_all r (bits 0)) (shift_all s (bits 0))
    (shift_all-fits r (bits 0) hr) (shift_all-fits s (bits 0) hs)

-- of nothing they make nothing
pub zeros-zero : (n : ℕ) → zeros_in 0 n ≡ 0
unfolding shift_all
zeros-zero zero = refl
zeros-zero (suc n) = zeros-zero n

-- one bit more, in front of them or behind
zeros-shift : (n r : ℕ) → zeros_in (shift r 0) n ≡ shift (zeros_in r n) 0
unfolding shift_all
zeros-shift zero r = refl
zeros-shift (suc n) r = zeros-shift n (shift_all r (bits 0))

-- one octet more, behind them
pub zeros-last : (n r : ℕ) → zeros_in r (suc n) ≡ shift_all (zeros_in r n) (bits 0)
zeros-last zero r = refl
zeros-last (suc n) r = zeros-last n (shift_all r (bits 0))

-- behind others
zeros-add : (m n r : ℕ) → zeros_in (zeros_in r m) n ≡ zeros_in r (m + n)
zeros-add zero n r =
    let same : n ≡ 0 + n = omega arith in
    ap (zeros_in r) same
zeros-add (suc m) n r =
    let one : suc (m + n) ≡ suc m + n = omega arith in
    zeros-add m n (shift_all r (bits 0)) ∙ ap (zeros_in r) one

-- as many again
pub zeros-twice : (n half : ℕ) → half ≡ zeros_in 1 n → zeros_in half n ≡ zeros_in 1 (n + n)
zeros-twice n half h = ap (λ r. zeros_in r n) h ∙ zeros-add n n 1

-- a register without its lowest bit, moved
doubled : (a : ℕ) → a < 32768 → shift a 0 ≡ a * 2
doubled a h =
    shift_is a 0 (omega (arith, h)) (omega arith)
    ∙ (λ i. bit_xor (small i) (taken (none i)))
    ∙ xor_zero_r (a * 2) where
      small : a * 2 % 65536 ≡ a * 2
      small = omega (arith, h)

      none : test a 0 ≡ 0
      none = omega (arith, h)

-- and with that
split : (r : ℕ) → bit_xor (r / 2 * 2) (r % 2) ≡ r
split r =
    grind (
      arith,
      xor_block 1 (r / 2) 0 0 (r % 2) (omega arith) (omega arith),
      xor_zero_r (r / 2),
      xor_zero_l (r % 2),
    )

-- what zeros make of a register, of that without its lowest bit and of the bit
zeros-split : (r n : ℕ)
    → r < 65536
    → zeros_in r n ≡ bit_xor (shift (zeros_in (r / 2) n) 0) (zeros_in (r % 2) n)
zeros-split r n h =
    ap (λ x. zeros_in x n)
    (sym (split r) ∙ ap (λ x. bit_xor x (r % 2)) (sym (doubled (r / 2) (omega (arith, h)))))
    ∙ zeros-sum n (shift (r / 2) 0) (r % 2) (shift_fits (r / 2) 0) (omega arith)
    ∙ ap (λ x. bit_xor x (zeros_in (r % 2) n)) (zeros-shift n (r / 2))

pub zeros-odd : (r n sum one : ℕ)
    → r < 65536
    → r % 2 ≡ 1
    → one ≡ zeros_in 1 n
    → sum ≡ zeros_in (r / 2) n
    → bit_xor (shift sum 0) one ≡ zeros_in r n
zeros-odd r n sum one h odd of_one of_rest =
    (λ i. bit_xor (shift (of_rest i) 0) (of_one i))
    ∙ ap (λ x. bit_xor (shift (zeros_in (r / 2) n) 0) (zeros_in x n)) (sym odd)
    ∙ sym (zeros-split r n h)

pub zeros-even : (r n sum : ℕ)
    → r < 65536
    → r % 2 ≡ 0
    → sum ≡ zeros_in (r / 2) n
    → shift sum 0 ≡ zeros_in r n
zeros-even r n sum h even of_rest =
    ap (λ x. shift x 0) of_rest
    ∙ sym (xor_zero_r (shift (zeros_in (r / 2) n) 0))
    ∙ ap (bit_xor (shift (zeros_in (r / 2) n) 0)) (sym (ap (λ x. zeros_in x n) even ∙ zeros-zero n))
    ∙ sym (zeros-split r n h)

-- ---- frames

again : (r : ℕ) → bit_xor (bit_xor r 65535) 65535 ≡ r
again r = xor_assoc r 65535 65535 ∙ ap (bit_xor r) (xor_self 65535) ∙ xor_zero_r r

-- octets whose checksum is 0 take a register to what as many zeros make of its sum with the
-- checksum's first one
pub frame-sum : (r : ℕ) (b : List ℕ)
    → r < 65536
    → checksum b ≡ 0
    → octets_in r b ≡ zeros_in (bit_xor r 65535) (length b)
unfolding checksum
frame-sum r b h none =
    ap (λ x. octets_in x b) (sym (again r))
    ∙ octets-sum b (bit_xor r 65535) 65535 (xor_of_16 r 65535 h (omega arith)) (omega arith)
    ∙ ap (bit_xor (zeros_in (bit_xor r 65535) (length b))) none
    ∙ xor_zero_r (zeros_in (bit_xor r 65535) (length b))
