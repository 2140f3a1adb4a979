-- Octets and words that go into sums of registers. All sums here are without carry.
use Rattle.std.proofs.Common.{◌≡◌, ◌∙◌, ap, sym, refl, ℕ, zero, suc, ◌+◌, ◌*◌, ◌/◌, ◌%◌, ◌^◌, ◌<◌, List, [], ◌∷◌, ◌++◌, length, arith, rules}
use Rattle.std.specs.Int.{w64, byte_at, bytes_low_first, to_le_bytes}
use Rattle.std.specs.Int.Bits.{bit_xor, xor_zero_l, xor_zero_r}
use Rattle.std.proofs.Math.Nat.{pow-suc}
use Rattle.std.proofs.lemmas.Nat.{pow-add, xor_mod, xor_shr}
use Rattle.std.proofs.lemmas.Nat.Bits.{bit_at_xor}
use Rattle.lpt_packet.specs.Checksums.{shift, bits, shift_all, octets_in}
use Rattle.lpt_packet.specs.Words.{word_in, words_in}
use Rattle.lpt_packet.proofs.Registers.{shift_fits, shift_all-fits, octets_in-fits}
use Rattle.lpt_packet.proofs.Shifts.{AreBits}
use Rattle.lpt_packet.proofs.Lookups.{cons_same}
use Rattle.lpt_packet.proofs.Slices.{shift_both}

-- ---- an octet

-- the sums of bits, one by one
abbrev bit_sums : List ℕ → List ℕ → List ℕ
bit_sums [] ys = []
bit_sums (x ∷ xs) [] = []
bit_sums (x ∷ xs) (y ∷ ys) = (x + y) % 2 ∷ bit_sums xs ys

-- as many bits into each register
bits_both : (xs ys : List ℕ) (r s : ℕ)
    → AreBits xs
    → AreBits ys
    → length xs ≡ length ys
    → r < 65536
    → s < 65536
    → shift_all (bit_xor r s) (bit_sums xs ys) ≡ bit_xor (shift_all r xs) (shift_all s ys)
unfolding shift_all
bits_both [] [] r s hx hy l hr hs = refl
bits_both [] (y ∷ ys) r s hx hy l hr hs = absurd (omega arith)
bits_both (x ∷ xs) [] r s hx hy l hr hs = absurd (omega arith)
bits_both (x ∷ xs) (y ∷ ys) r s hx hy l hr hs =
    ap (λ (m : ℕ). shift_all m (bit_sums xs ys)) (shift_both r s x y hr hs hx.0 hy.0)
    ∙ bits_both xs ys (shift r x) (shift s y) hx.1 hy.1 (omega arith)
    (shift_fits r x) (shift_fits s y)

bits_sum : (x y : ℕ) → bits (bit_xor x y) ≡ bit_sums (bits x) (bits y)
bits_sum x y =
    cons_same (omega (arith, bit_at_xor x y 7)) (
    cons_same (omega (arith, bit_at_xor x y 6)) (
    cons_same (omega (arith, bit_at_xor x y 5)) (
    cons_same (omega (arith, bit_at_xor x y 4)) (
    cons_same (omega (arith, bit_at_xor x y 3)) (
    cons_same (omega (arith, bit_at_xor x y 2)) (
    cons_same (omega (arith, bit_at_xor x y 1)) (
    cons_same (omega (arith, bit_at_xor x y 0)) refl)))))))

octet_both : (x y r s : ℕ)
    → r < 65536
    → s < 65536
    → shift_all (bit_xor r s) (bits (bit_xor x y))
    ≡ bit_xor (shift_all r (bits x)) (shift_all s (bits y))
octet_both x y r s hr hs =
    ap (shift_all (bit_xor r s)) (bits_sum x y)
    ∙ bits_both (bits x) (bits y) r s (search rules) (search rules) refl hr hs

-- ---- a word

powers : (i : ℕ) → 256 ^ i ≡ 2 ^ (8 * i)
powers zero = refl
powers (suc i) =
    let more : 8 * i + 8 ≡ 8 * suc i = omega arith in
    pow-suc 256 i
    ∙ ap (λ (n : ℕ). n * 256) (powers i)
    ∙ sym (pow-add 2 (8 * i) 8)
    ∙ ap (λ (n : ℕ). 2 ^ n) more

byte_sum : (i v w : ℕ) → byte_at i (bit_xor v w) ≡ bit_xor (byte_at i v) (byte_at i w)
byte_sum zero v w = xor_mod v w 8
byte_sum (suc i) v w =
    let k : ℕ = 8 * suc i in
    let worth : 256 ^ suc i ≡ 2 ^ k = powers (suc i) in
    ap (λ (n : ℕ). bit_xor v w / n % 256) worth
    ∙ ap (λ (n : ℕ). n % 256) (xor_shr v w k)
    ∙ xor_mod (v / 2 ^ k) (w / 2 ^ k) 8
    ∙ ap (λ (n : ℕ). bit_xor (v / n % 256) (w / n % 256)) (sym worth)

bytes_both : (k i v w r s : ℕ)
    → r < 65536
    → s < 65536
    → octets_in (bit_xor r s) (bytes_low_first i k (bit_xor v w))
    ≡ bit_xor (octets_in r (bytes_low_first i k v)) (octets_in s (bytes_low_first i k w))
unfolding octets_in
bytes_both zero i v w r s hr hs = refl
bytes_both (suc k) i v w r s hr hs =
    let x : ℕ = byte_at i v in
    let y : ℕ = byte_at i w in
    let rest : List ℕ = bytes_low_first (suc i) k (bit_xor v w) in
    ap (λ (o : ℕ). octets_in (shift_all (bit_xor r s) (bits o)) rest) (byte_sum i v w)
    ∙ ap (λ (m : ℕ). octets_in m rest) (octet_both x y r s hr hs)
    ∙ bytes_both k (suc i) v w (shift_all r (bits x)) (shift_all s (bits y))
    (shift_all-fits r (bits x) hr) (shift_all-fits s (bits y) hs)

-- a word into each register
pub word_both : (v w r s : ℕ)
    → r < 65536
    → s < 65536
    → word_in (bit_xor r s) (bit_xor v w) ≡ bit_xor (word_in r v) (word_in s w)
word_both v w r s hr hs = bytes_both 8 0 v w r s hr hs

-- a register keeps to sixteen bits
pub word_in-fits : (r w : ℕ) → r < 65536 → word_in r w < 65536
word_in-fits r w h = octets_in-fits r (to_le_bytes w64 w) h

-- the word is as good as one of zeros, with what it makes of a register of zeros added
pub word_parts : (w s : ℕ) → s < 65536 → word_in s w ≡ bit_xor (word_in s 0) (word_in 0 w)
word_parts w s h =
    ap (λ (m : ℕ). word_in m w) (sym (xor_zero_r s))
    ∙ ap (word_in (bit_xor s 0)) (sym (xor_zero_l w))
    ∙ word_both 0 w s 0 h (omega arith)

-- ---- words

-- the sums of words, one by one
abbrev pub sums : List ℕ → List ℕ → List ℕ
sums [] ws = []
sums (v ∷ vs) [] = []
sums (v ∷ vs) (w ∷ ws) = bit_xor v w ∷ sums vs ws

-- as many words into each register
pub words_both : (vs ws : List ℕ) (r s : ℕ)
    → length vs ≡ length ws
    → r < 65536
    → s < 65536
    → words_in (bit_xor r s) (sums vs ws) ≡ bit_xor (words_in r vs) (words_in s ws)
unfolding words_in
words_both [] [] r s l hr hs = refl
words_both [] (w ∷ ws) r s l hr hs = absurd (omega arith)
words_both (v ∷ vs) [] r s l hr hs = absurd (omega arith)
words_both (v ∷ vs) (w ∷ ws) r s l hr hs =
    ap (λ (m : ℕ). words_in m (sums vs ws)) (word_both v w r s hr hs)
    ∙ words_both vs ws (word_in r v) (word_in s w) (omega arith)
    (word_in-fits r v hr) (word_in-fits s w hs)

-- some words and then others
pub words_in-append : (r : ℕ) (a b : List ℕ) → words_in r (a ++ b) ≡ words_in (words_in r a) b
unfolding words_in
words_in-append r [] b = refl
words_in-append r (w ∷ a) b = words_in-append (word_in r w) a b
