-- Sixteen words stand for the register that they make of one of zeros. All sums are without carry.
use Rattle.std.proofs.Common.{◌≡◌, ◌∙◌, ap, sym, refl, ℕ, zero, suc, ◌+◌, ◌*◌, ◌/◌, ◌%◌, ◌<◌, ◌≤◌, List, [], ◌∷◌, ◌++◌, length, get_or, map, take, drop, replicate, arith, add-one, drop-cons, take-append-drop}
use Rattle.std.specs.List.{range_with_len}
use Rattle.std.specs.Simd.{first_chunks}
use Rattle.std.proofs.lemmas.Grind.{same_number_lists}
use Rattle.std.proofs.lemmas.List.{drop_all, length-drop}
use Rattle.std.proofs.lemmas.List.FromFn.{get_or-map-range_with_len, length-map-range_with_len}
use Rattle.std.specs.Int.{w64, to_le_bytes}
use Rattle.std.specs.Int.Bits.{bit_xor, xor_self, xor_zero_r}
use Rattle.std.proofs.lemmas.Nat.{xor_of_16}
use Rattle.lpt_packet.specs.Checksums.{shift_all, octets_in}
use Rattle.lpt_packet.specs.Words.{word_in, words_in}
use Rattle.lpt_packet.proofs.Registers.{octets_in-append}
use Rattle.lpt_packet.proofs.Slices.{added_first}
use Rattle.lpt_packet.proofs.WordSums.{word_in-fits, word_parts, sums, words_both, words_in-append}
use Rattle.lpt_packet.proofs.Powers.{behind, behind-fits, behind-sum, vanishes}

-- ---- lists of known length

-- as many numbers, one by one
pub spelled : (n : ℕ) (xs : List ℕ)
    → length xs ≡ n
    → map (λ (i : ℕ). get_or xs i 0) (range_with_len 0 n) ≡ xs
spelled n xs l =
    let at : ℕ → ℕ = λ i. get_or xs i 0 in
    let long : length (map at (range_with_len 0 n)) ≡ n = length-map-range_with_len at 0 n in
    same_number_lists (map at (range_with_len 0 n)) xs (long ∙ sym l)
    (λ k h. get_or-map-range_with_len at 0 n k k 0 (omega (arith, long, h)) (omega arith))

-- ---- one word that goes

-- a word, and it again 4, 11 and 16 places behind, make nothing
nothing_made : (a : ℕ)
    → words_in 0
    (a ∷ 0 ∷ 0 ∷ 0 ∷ a ∷ 0 ∷ 0 ∷ 0 ∷ 0 ∷ 0 ∷ 0 ∷ a ∷ 0 ∷ 0 ∷ 0 ∷ 0 ∷ a ∷ []) ≡ 0
unfolding words_in
nothing_made a =
    let r : ℕ = word_in 0 a in
    let rr : r < 65536 = word_in-fits 0 a (omega arith) in
    let at : ℕ → ℕ = λ n. behind r n in
    let fits : (n : ℕ) → at n < 65536 = λ n. behind-fits n r rr in
    let two : (m n : ℕ) → bit_xor (at m) (at n) < 65536 =
    λ m n. xor_of_16 (at m) (at n) (fits m) (fits n) in
    let x : ℕ = word_in (at 3) a in
    let y : ℕ = word_in (behind x 6) a in
    let x_is : x ≡ bit_xor (at 4) r = word_parts a (at 3) (fits 3) in
    let six : behind x 6 ≡ bit_xor (at 10) (at 6) =
    ap (λ (m : ℕ). behind m 6) x_is ∙ behind-sum 6 (at 4) r (fits 4) rr in
    let y_is : y ≡ bit_xor (bit_xor (at 11) (at 7)) r =
    ap (λ (m : ℕ). word_in m a) six
    ∙ word_parts a (bit_xor (at 10) (at 6)) (two 10 6)
    ∙ ap (λ (m : ℕ). bit_xor m r) (behind-sum 1 (at 10) (at 6) (fits 10) (fits 6)) in
    let four : behind y 4 ≡ bit_xor (bit_xor (at 15) (at 11)) (at 4) =
    ap (λ (m : ℕ). behind m 4) y_is
    ∙ behind-sum 4 (bit_xor (at 11) (at 7)) r (two 11 7) rr
    ∙ ap (λ (m : ℕ). bit_xor m (at 4)) (behind-sum 4 (at 11) (at 7) (fits 11) (fits 7)) in
    let last : ℕ = bit_xor (bit_xor (at 15) (at 11)) (at 4) in
    let last_fits : last < 65536 =
    xor_of_16 (bit_xor (at 15) (at 11)) (at 4) (two 15 11) (fits 4) in
    ap (λ (m : ℕ). word_in m a) four
    ∙ word_parts a last last_fits
    ∙ ap (λ (m : ℕ). bit_xor m r)
    (behind-sum 1 (bit_xor (at 15) (at 11)) (at 4) (two 15 11) (fits 4)
    ∙ ap (λ (m : ℕ). bit_xor m (at 5)) (behind-sum 1 (at 15) (at 11) (fits 15) (fits 11)))
    ∙ vanishes r rr

-- a word of zeros leaves a register of zeros
nothing_in : word_in 0 0 ≡ 0
unfolding octets_in shift_all
nothing_in = refl

pub zero_first : (ws : List ℕ) → words_in 0 (0 ∷ ws) ≡ words_in 0 ws
unfolding words_in
zero_first ws = ap (λ (m : ℕ). words_in m ws) nothing_in

-- so the first of seventeen words may go, if it is added to those 4, 11 and 16 places behind it
first_goes : (a b c d e f g h i j k l m n o p q : ℕ)
    → words_in 0 (b ∷ c ∷ d ∷ bit_xor e a ∷ f ∷ g ∷ h ∷ i ∷ j ∷ k ∷ bit_xor l a ∷ m ∷ n ∷ o ∷ p
    ∷ bit_xor q a ∷ [])
    ≡ words_in 0 (a ∷ b ∷ c ∷ d ∷ e ∷ f ∷ g ∷ h ∷ i ∷ j ∷ k ∷ l ∷ m ∷ n ∷ o ∷ p ∷ q ∷ [])
first_goes a b c d e f g h i j k l m n o p q =
    let all : List ℕ = a ∷ b ∷ c ∷ d ∷ e ∷ f ∷ g ∷ h ∷ i ∷ j ∷ k ∷ l ∷ m ∷ n ∷ o ∷ p ∷ q ∷ [] in
    let gone : List ℕ = a ∷ 0 ∷ 0 ∷ 0 ∷ a ∷ 0 ∷ 0 ∷ 0 ∷ 0 ∷ 0 ∷ 0 ∷ a ∷ 0 ∷ 0 ∷ 0 ∷ 0 ∷ a ∷ [] in
    let next : List ℕ = b ∷ c ∷ d ∷ bit_xor e a ∷ f ∷ g ∷ h ∷ i ∷ j ∷ k ∷ bit_xor l a ∷ m ∷ n ∷ o
    ∷ p ∷ bit_xor q a ∷ [] in
    let same : sums all gone ≡ 0 ∷ next = simp (xor_self, xor_zero_r) refl in
    sym (zero_first next)
    ∙ ap (words_in 0) (sym same)
    ∙ words_both all gone 0 0 refl (omega arith) (omega arith)
    ∙ ap (bit_xor (words_in 0 all)) (nothing_made a)
    ∙ xor_zero_r (words_in 0 all)

words_in-one : (r w : ℕ) → words_in r (w ∷ []) ≡ word_in r w
unfolding words_in
words_in-one r w = refl

-- one word more behind sixteen
pub word_more : (ws : List ℕ) (q : ℕ)
    → length ws ≡ 16
    → words_in 0 (get_or ws 1 0 ∷ get_or ws 2 0 ∷ get_or ws 3 0
    ∷ bit_xor (get_or ws 4 0) (get_or ws 0 0) ∷ get_or ws 5 0 ∷ get_or ws 6 0 ∷ get_or ws 7 0
    ∷ get_or ws 8 0 ∷ get_or ws 9 0 ∷ get_or ws 10 0
    ∷ bit_xor (get_or ws 11 0) (get_or ws 0 0) ∷ get_or ws 12 0 ∷ get_or ws 13 0 ∷ get_or ws 14 0
    ∷ get_or ws 15 0 ∷ bit_xor q (get_or ws 0 0) ∷ [])
    ≡ word_in (words_in 0 ws) q
word_more ws q l =
    let at : ℕ → ℕ = λ i. get_or ws i 0 in
    first_goes (at 0) (at 1) (at 2) (at 3) (at 4) (at 5) (at 6) (at 7) (at 8) (at 9) (at 10) (at 11)
    (at 12) (at 13) (at 14) (at 15) q
    ∙ words_in-append 0 (map at (range_with_len 0 16)) (q ∷ [])
    ∙ words_in-one (words_in 0 (map at (range_with_len 0 16))) q
    ∙ ap (λ (xs : List ℕ). word_in (words_in 0 xs) q) (spelled 16 ws l)

-- ---- words one by one

-- the next word in
pub words_in-next : (r : ℕ) (ws : List ℕ) (i : ℕ)
    → i < length ws
    → words_in (word_in r (get_or ws i 0)) (drop (i + 1) ws) ≡ words_in r (drop i ws)
unfolding words_in
words_in-next r ws i h = rw (add-one, drop-cons ws i 0) refl

-- no word is left
pub words_in-end : (r : ℕ) (ws : List ℕ) (i : ℕ) → length ws ≤ i → words_in r (drop i ws) ≡ r
unfolding words_in
words_in-end r ws i h = rw drop_all refl

-- words of zeros in front
pub zeros_first : (n : ℕ) (ws : List ℕ) → words_in 0 (replicate n 0 ++ ws) ≡ words_in 0 ws
zeros_first zero ws = refl
zeros_first (suc n) ws = zero_first (replicate n 0 ++ ws) ∙ zeros_first n ws

-- a first word
pub word_alone : (w : ℕ) → words_in 0 (replicate 15 0 ++ w ∷ []) ≡ word_in 0 w
word_alone w = zeros_first 15 (w ∷ []) ∙ words_in-one 0 w

-- ---- octets by eights

-- the register after lists of octets
unfoldable pub eights_in : ℕ → List (List ℕ) → ℕ
eights_in r [] = r
eights_in r (xs ∷ rest) = eights_in (octets_in r xs) rest

no_octets : (r : ℕ) → octets_in r [] ≡ r
unfolding octets_in
no_octets r = refl

-- eight after eight
pub eights_all : (n r : ℕ) (xs : List ℕ)
    → length xs ≡ n * 8
    → eights_in r (first_chunks 8 n xs) ≡ octets_in r xs
unfolding eights_in
eights_all zero r [] l = sym (no_octets r)
eights_all zero r (x ∷ xs) l = absurd (omega arith)
eights_all (suc n) r xs l =
    eights_all n (octets_in r (take 8 xs)) (drop 8 xs) (omega (arith, length-drop 8 xs))
    ∙ sym (octets_in-append r (take 8 xs) (drop 8 xs))
    ∙ ap (octets_in r) (take-append-drop 8 xs)

-- the next eight in
pub eights_in-next : (r : ℕ) (xs : List (List ℕ)) (i : ℕ)
    → i < length xs
    → eights_in (octets_in r (get_or xs i [])) (drop (i + 1) xs) ≡ eights_in r (drop i xs)
unfolding eights_in
eights_in-next r xs i h = rw (add-one, drop-cons xs i []) refl

-- none are left
pub eights_in-end : (r : ℕ) (xs : List (List ℕ)) (i : ℕ)
    → length xs ≤ i
    → eights_in r (drop i xs) ≡ r
unfolding eights_in
eights_in-end r xs i h = rw drop_all refl

-- ---- the first word

-- a register that is added to its first two octets
pub word_added : (r w : ℕ) (xs : List ℕ)
    → r < 65536
    → length xs ≡ 8
    → to_le_bytes w64 w
    ≡ bit_xor (r / 256) (get_or xs 0 0) ∷ bit_xor (r % 256) (get_or xs 1 0) ∷ get_or xs 2 0
    ∷ get_or xs 3 0 ∷ get_or xs 4 0 ∷ get_or xs 5 0 ∷ get_or xs 6 0 ∷ get_or xs 7 0 ∷ []
    → word_in 0 w ≡ octets_in r xs
word_added r w xs h l spelt =
    let at : ℕ → ℕ = λ i. get_or xs i 0 in
    ap (octets_in 0) spelt
    ∙ sym (added_first r (at 0) (at 1) (at 2 ∷ at 3 ∷ at 4 ∷ at 5 ∷ at 6 ∷ at 7 ∷ []) h)
    ∙ ap (octets_in r) (spelled 8 xs l)
