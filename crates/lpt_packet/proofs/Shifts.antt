-- Up to sixteen bits that were shifted into a register can be told from what it is afterwards.
use Rattle.std.proofs.Common.{◌≡◌, ◌∙◌, ap, sym, refl, ℕ, zero, suc, ◌+◌, ◌-◌, ◌*◌, ◌/◌, ◌%◌, ◌<◌, ◌≤◌, ◌==◌, Bool, true, false, if◌then◌else◌, List, [], ◌∷◌, ◌++◌, length, arith, below_more}
use Rattle.std.specs.Int.{bit_at}
use Rattle.std.specs.Int.Bits.{bit_xor, xor_zero_r}
use Rattle.std.proofs.lemmas.Nat.{xor_lt}
use Rattle.std.proofs.lemmas.Nat.Bits.{bit_at-suc, bit_at_xor, bit_at-lt, bit_at_cat_low, same_from_bits_below}
use Rattle.lpt_packet.specs.Checksums.{shift, shift_all}
use Rattle.lpt_packet.proofs.Registers.{shift_fits}

-- ---- one shift, as bits

-- each number is 0 or 1
abbrev pub AreBits : List ℕ → Type 0
AreBits [] = Unit {0}
AreBits (b ∷ rest) = (b < 2) × AreBits rest

-- what a shift adds, where the test's outcome is p
abbrev pub taken : ℕ → ℕ
taken p = if p == 1 then 4129 else 0

-- 1 where a shift takes the polynomial, else 0
abbrev pub test : ℕ → ℕ → ℕ
test r b = (r / 32768 + b) % 2

-- the exclusive or of two bits
pub xor_of_bits : (x y : ℕ) → x < 2 → y < 2 → bit_xor x y ≡ (x + y) % 2
xor_of_bits x y p q = omega (arith, bit_at_xor x y 0, xor_lt 1 x y p q)

chosen : (t : Bool) (m : ℕ) → (if t then bit_xor m 4129 else m) ≡ bit_xor m (if t then 4129 else 0)
chosen true m = refl
chosen false m = sym (xor_zero_r m)

-- a shift moves the register, and adds the polynomial where it is taken
pub shift_is : (r b : ℕ)
    → r < 65536
    → b < 2
    → shift r b ≡ bit_xor (r * 2 % 65536) (taken (test r b))
shift_is r b hr hb =
    let e : bit_xor (r / 32768) b ≡ test r b = xor_of_bits (r / 32768) b (omega arith) hb in
    chosen (bit_xor (r / 32768) b == 1) (r * 2 % 65536)
    ∙ ap (λ (p : ℕ). bit_xor (r * 2 % 65536) (taken p)) e

taken_lowest : (p : ℕ) → p < 2 → bit_at (taken p) 0 ≡ p
taken_lowest zero h = refl
taken_lowest (suc zero) h = refl
taken_lowest (suc (suc p)) h = absurd (omega arith)

-- the lowest bit tells whether the polynomial was taken
lowest : (r b : ℕ) → r < 65536 → b < 2 → bit_at (shift r b) 0 ≡ test r b
lowest r b hr hb =
    let e : bit_at (taken (test r b)) 0 ≡ test r b = taken_lowest (test r b) (omega arith) in
    ap (λ (n : ℕ). bit_at n 0) (shift_is r b hr hb)
    ∙ bit_at_xor (r * 2 % 65536) (taken (test r b)) 0
    ∙ ap (λ (n : ℕ). (bit_at (r * 2 % 65536) 0 + n) % 2) e
    ∙ omega arith

-- each bit but the highest is one place higher after the register moves
moved : (r i : ℕ) → i < 15 → bit_at (r * 2 % 65536) (suc i) ≡ bit_at r i
moved r i h =
    bit_at-suc (r * 2 % 65536) i
    ∙ ap (λ (n : ℕ). bit_at n i) (omega arith)
    ∙ sym (bit_at_cat_low (r / 32768) 15 (r % 32768) i h)
    ∙ ap (λ (n : ℕ). bit_at n i) (omega arith)

-- the other bits are those of before, changed where the polynomial was taken
higher : (r b i : ℕ) → r < 65536 → b < 2 → i < 15 →
    bit_at (shift r b) (suc i) ≡ (bit_at r i + bit_at (taken (test r b)) (suc i)) % 2
higher r b i hr hb h =
    ap (λ (n : ℕ). bit_at n (suc i)) (shift_is r b hr hb)
    ∙ bit_at_xor (r * 2 % 65536) (taken (test r b)) (suc i)
    ∙ ap (λ (n : ℕ). (n + bit_at (taken (test r b)) (suc i)) % 2) (moved r i h)

-- ---- one shift, backwards

-- the k lowest bits are the same
abbrev Agree : ℕ → ℕ → ℕ → Type 0
Agree k r s = (i : ℕ) → i < k → bit_at r i ≡ bit_at s i

-- where the lowest bit is the same, both shifts took the polynomial or neither did
same_test : (k r s a b : ℕ) → r < 65536 → s < 65536 → a < 2 → b < 2 →
    Agree (suc k) (shift r a) (shift s b) → test r a ≡ test s b
same_test k r s a b hr hs ha hb e = sym (lowest r a hr ha) ∙ e 0 (omega arith) ∙ lowest s b hs hb

cancel : (x y z : ℕ) → x < 2 → y < 2 → (x + z) % 2 ≡ (y + z) % 2 → x ≡ y
cancel x y z p q e = omega arith

-- where k + 1 bits are the same after a shift, k were before it
agree_before : (k r s a b : ℕ) → k ≤ 15 → r < 65536 → s < 65536 → a < 2 → b < 2 →
    Agree (suc k) (shift r a) (shift s b) → Agree k r s
agree_before k r s a b hk hr hs ha hb e i h =
    let t : test r a ≡ test s b = same_test k r s a b hr hs ha hb e in
    let ahead : bit_at (shift r a) (suc i) ≡ (bit_at r i + bit_at (taken (test s b)) (suc i)) % 2 =
    higher r a i hr ha (omega arith)
    ∙ ap (λ (p : ℕ). (bit_at r i + bit_at (taken p) (suc i)) % 2) t in
    cancel (bit_at r i) (bit_at s i) (bit_at (taken (test s b)) (suc i))
    (bit_at-lt r i) (bit_at-lt s i)
    (sym ahead ∙ e (suc i) (omega arith) ∙ higher s b i hs hb (omega arith))

-- the same bit takes different registers to different registers
shift_injective : (r s b : ℕ) → r < 65536 → s < 65536 → b < 2 → shift r b ≡ shift s b → r ≡ s
shift_injective r s b hr hs hb e =
    let agree : Agree 16 (shift r b) (shift s b) = λ i h. ap (λ (n : ℕ). bit_at n i) e in
    let t : test r b ≡ test s b = same_test 15 r s b b hr hs hb hb agree in
    let below : Agree 15 r s = agree_before 15 r s b b (omega arith) hr hs hb hb agree in
    same_from_bits_below 16 r s hr hs
    (below_more (λ i. bit_at r i ≡ bit_at s i) 15 below (omega arith))

-- ---- many shifts

-- some bits and then others
pub shift_all-append : (r : ℕ) (a b : List ℕ) → shift_all r (a ++ b) ≡ shift_all (shift_all r a) b
unfolding shift_all
shift_all-append r [] b = refl
shift_all-append r (x ∷ a) b = shift_all-append (shift r x) a b

-- the same bits take different registers to different registers
pub injective : (b : List ℕ) (r s : ℕ) → AreBits b → r < 65536 → s < 65536 →
    shift_all r b ≡ shift_all s b → r ≡ s
unfolding shift_all
injective [] r s p hr hs e = e
injective (b ∷ rest) r s p hr hs e =
    shift_injective r s b hr hs p.0
    (injective rest (shift r b) (shift s b) p.1 (shift_fits r b) (shift_fits s b) e)

-- where 16 - k bits each lead to one register, the k lowest bits were the same before
agree_at_first : (one other : List ℕ) (k r s : ℕ) → AreBits one → AreBits other →
    length one ≡ length other → k + length one ≡ 16 → r < 65536 → s < 65536 →
    shift_all r one ≡ shift_all s other → Agree k r s
unfolding shift_all
agree_at_first [] [] k r s p q l n hr hs e = λ i h. ap (λ (m : ℕ). bit_at m i) e
agree_at_first [] (b ∷ other) k r s p q l n hr hs e = absurd (omega arith)
agree_at_first (a ∷ one) [] k r s p q l n hr hs e = absurd (omega arith)
agree_at_first (a ∷ one) (b ∷ other) k r s p q l n hr hs e =
    let agree : Agree (suc k) (shift r a) (shift s b) =
    agree_at_first one other (suc k) (shift r a) (shift s b) p.1 q.1
    (omega arith) (omega arith) (shift_fits r a) (shift_fits s b) e in
    agree_before k r s a b (omega arith) hr hs p.0 q.0 agree

-- two lists of as many bits, up to 16, that take one register to one register are the same
pub apart : (one other : List ℕ) (r : ℕ) → AreBits one → AreBits other → length one ≡ length other →
    length one ≤ 16 → r < 65536 → shift_all r one ≡ shift_all r other → one ≡ other
unfolding shift_all
apart [] [] r p q l n hr e = refl
apart [] (b ∷ other) r p q l n hr e = absurd (omega arith)
apart (a ∷ one) [] r p q l n hr e = absurd (omega arith)
apart (a ∷ one) (b ∷ other) r p q l n hr e =
    let agree : Agree (suc (15 - length one)) (shift r a) (shift r b) =
    agree_at_first one other (suc (15 - length one)) (shift r a) (shift r b) p.1 q.1
    (omega arith) (omega arith) (shift_fits r a) (shift_fits r b) e in
    let first : test r a ≡ test r b = same_test (15 - length one) r r a b hr hr p.0 q.0 agree in
    let same : b ≡ a = omega (arith, p.0, q.0) in
    let rest : one ≡ other =
    apart one other (shift r a) p.1 q.1 (omega arith) (omega arith) (shift_fits r a)
    (e ∙ ap (λ (c : ℕ). shift_all (shift r c) other) same) in
    cc
