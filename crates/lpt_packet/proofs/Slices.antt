-- Eight octets shifted in at once: the register is added to the first two, and each octet then does
-- to a register of zeros what it does with zeros behind it. All sums here are without carry.
use Rattle.std.proofs.Common.{◌≡◌, ◌∙◌, ap, sym, refl, ℕ, zero, suc, ◌+◌, ◌*◌, ◌/◌, ◌%◌, ◌<◌, List, [], ◌∷◌, length, get_or, map, replicate, arith, rules}
use Rattle.std.specs.Int.Bits.{bit_xor, xor_assoc, xor_comm, xor_zero_l, xor_zero_r}
use Rattle.std.proofs.lemmas.Nat.{xor_of_16}
use Rattle.lpt_packet.specs.Checksums.{shift, bits, shift_all, octets_in}
use Rattle.lpt_packet.proofs.Registers.{shift_fits, shift_all-fits}
use Rattle.lpt_packet.proofs.Shifts.{AreBits, taken, test, shift_is}
use Rattle.lpt_packet.proofs.Lookups.{moved_sum, test_sum, octet_sum}

-- ---- one bit into the sum of two registers

pub exchange : (m n p q : ℕ)
    → bit_xor (bit_xor m n) (bit_xor p q)
    ≡ bit_xor (bit_xor m p) (bit_xor n q)
exchange m n p q =
    xor_assoc m n (bit_xor p q)
    ∙ ap (bit_xor m) (sym (xor_assoc n p q))
    ∙ ap (λ (k : ℕ). bit_xor m (bit_xor k q)) (xor_comm n p)
    ∙ ap (bit_xor m) (xor_assoc p n q)
    ∙ sym (xor_assoc m p (bit_xor n q))

-- what two shifts take of the polynomial is added as their tests are
taken_sum : (p q : ℕ) → p < 2 → q < 2 → taken ((p + q) % 2) ≡ bit_xor (taken p) (taken q)
taken_sum zero zero h k = refl
taken_sum zero (suc zero) h k = refl
taken_sum (suc zero) zero h k = refl
taken_sum (suc zero) (suc zero) h k = refl
taken_sum zero (suc (suc q)) h k = absurd (omega arith)
taken_sum (suc zero) (suc (suc q)) h k = absurd (omega arith)
taken_sum (suc (suc p)) q h k = absurd (omega arith)

-- so each register takes a bit of its own
pub shift_both : (r s a b : ℕ)
    → r < 65536
    → s < 65536
    → a < 2
    → b < 2
    → shift (bit_xor r s) ((a + b) % 2) ≡ bit_xor (shift r a) (shift s b)
shift_both r s a b hr hs ha hb =
    let m : ℕ = r * 2 % 65536 in
    let n : ℕ = s * 2 % 65536 in
    let c : ℕ = (a + b) % 2 in
    let p : ℕ = test r a in
    let q : ℕ = test s b in
    let tests : test (bit_xor r s) c ≡ (p + q) % 2 = test_sum r s c hr hs ∙ omega arith in
    shift_is (bit_xor r s) c (xor_of_16 r s hr hs) (omega arith)
    ∙ ap (λ (k : ℕ). bit_xor k (taken (test (bit_xor r s) c))) (moved_sum r s)
    ∙ ap (λ (k : ℕ). bit_xor (bit_xor m n) (taken k)) tests
    ∙ ap (bit_xor (bit_xor m n)) (taken_sum p q (omega arith) (omega arith))
    ∙ exchange m n (taken p) (taken q)
    ∙ ap (λ (k : ℕ). bit_xor k (bit_xor n (taken q))) (sym (shift_is r a hr ha))
    ∙ ap (bit_xor (shift r a)) (sym (shift_is s b hs hb))

-- as one a zero, and the other the bit
pub shift_parts : (r s b : ℕ)
    → r < 65536
    → s < 65536
    → b < 2
    → shift (bit_xor r s) b ≡ bit_xor (shift r 0) (shift s b)
shift_parts r s b hr hs hb =
    let same : b ≡ (0 + b) % 2 = omega arith in
    ap (shift (bit_xor r s)) same ∙ shift_both r s 0 b hr hs (omega arith) hb

-- ---- many bits, and octets

-- as many zeros
abbrev zeros : List ℕ → List ℕ
zeros xs = map (λ _. 0) xs

bits_parts : (bs : List ℕ) (r s : ℕ)
    → AreBits bs
    → r < 65536
    → s < 65536
    → shift_all (bit_xor r s) bs ≡ bit_xor (shift_all r (zeros bs)) (shift_all s bs)
unfolding shift_all
bits_parts [] r s h hr hs = refl
bits_parts (b ∷ bs) r s h hr hs =
    ap (λ (m : ℕ). shift_all m bs) (shift_parts r s b hr hs h.0)
    ∙ bits_parts bs (shift r 0) (shift s b) h.1 (shift_fits r 0) (shift_fits s b)

octet_parts : (o r s : ℕ)
    → r < 65536
    → s < 65536
    → shift_all (bit_xor r s) (bits o) ≡ bit_xor (shift_all r (bits 0)) (shift_all s (bits o))
octet_parts o r s hr hs = bits_parts (bits o) r s (search rules) hr hs

octets_parts : (xs : List ℕ) (r s : ℕ)
    → r < 65536
    → s < 65536
    → octets_in (bit_xor r s) xs ≡ bit_xor (octets_in r (zeros xs)) (octets_in s xs)
unfolding octets_in
octets_parts [] r s hr hs = refl
octets_parts (x ∷ xs) r s hr hs =
    ap (λ (m : ℕ). octets_in m xs) (octet_parts x r s hr hs)
    ∙ octets_parts xs (shift_all r (bits 0)) (shift_all s (bits x))
    (shift_all-fits r (bits 0) hr) (shift_all-fits s (bits x) hs)

-- ---- a register of zeros: the sum of what each octet makes of it

-- the sum of what each octet makes with zeros in place of those behind it
abbrev parts : List ℕ → ℕ
parts [] = 0
parts (x ∷ xs) = bit_xor (octets_in 0 (x ∷ zeros xs)) (parts xs)

-- and that is what they make together
parts_are : (xs : List ℕ) → octets_in 0 xs ≡ parts xs
unfolding octets_in
parts_are [] = refl
parts_are (x ∷ xs) =
    let first : ℕ = shift_all 0 (bits x) in
    ap (λ (m : ℕ). octets_in m xs) (sym (xor_zero_r first))
    ∙ octets_parts xs first 0 (shift_all-fits 0 (bits x) (omega arith)) (omega arith)
    ∙ ap (bit_xor (octets_in first (zeros xs))) (parts_are xs)

-- ---- a register that falls out with the first two octets

-- the register is as good as octets that are added to these
pub added_first : (r a b : ℕ) (rest : List ℕ)
    → r < 65536
    → octets_in r (a ∷ b ∷ rest)
    ≡ octets_in 0 (bit_xor (r / 256) a ∷ bit_xor (r % 256) b ∷ rest)
unfolding octets_in
added_first r a b rest h =
    let m : ℕ = r * 256 % 65536 in
    let u : ℕ = shift_all 0 (bits (bit_xor (r / 256) a)) in
    let x : ℕ = bit_xor (r % 256) b in
    let fits : u < 65536 = shift_all-fits 0 (bits (bit_xor (r / 256) a)) (omega arith) in
    let gone : m * 256 % 65536 ≡ 0 = omega arith in
    let upper : m / 256 ≡ r % 256 = omega arith in
    let back : shift_all m (bits b) ≡ shift_all 0 (bits x) =
    octet_sum m b (omega arith)
    ∙ ap (λ (k : ℕ). bit_xor k (shift_all 0 (bits (bit_xor (m / 256) b)))) gone
    ∙ xor_zero_l (shift_all 0 (bits (bit_xor (m / 256) b)))
    ∙ ap (λ (k : ℕ). shift_all 0 (bits (bit_xor k b))) upper in
    let two : shift_all (shift_all r (bits a)) (bits b) ≡ shift_all u (bits x) =
    ap (λ (k : ℕ). shift_all k (bits b)) (octet_sum r a h ∙ xor_comm m u)
    ∙ octet_parts b u m fits (omega arith)
    ∙ ap (bit_xor (shift_all u (bits 0))) back
    ∙ sym (octet_parts x u 0 fits (omega arith))
    ∙ ap (λ (k : ℕ). shift_all k (bits x)) (xor_zero_r u) in
    ap (λ (k : ℕ). octets_in k rest) two

-- ---- eight octets

-- what an octet makes of a register of zeros, with n octets of zeros behind it
abbrev made : ℕ → ℕ → ℕ
made octet n = octets_in 0 (octet ∷ replicate n 0)

-- parts of eight octets, the last six added up before the first two
first_last : (a b c d e f g h : ℕ)
    → bit_xor a (bit_xor b (bit_xor c (bit_xor d
    (bit_xor e (bit_xor f (bit_xor g (bit_xor h 0)))))))
    ≡ bit_xor (bit_xor (bit_xor (bit_xor (bit_xor (bit_xor c d) e) f) g) h) (bit_xor a b)
first_last a b c d e f g h =
    let six : ℕ = bit_xor (bit_xor (bit_xor (bit_xor (bit_xor c d) e) f) g) h in
    let all : bit_xor a (bit_xor b (bit_xor c (bit_xor d
    (bit_xor e (bit_xor f (bit_xor g (bit_xor h 0))))))) ≡ bit_xor (bit_xor a b) six =
    simp (xor_assoc, xor_zero_r) refl in
    all ∙ xor_comm (bit_xor a b) six

-- eight octets into a register
pub eight_sum : (r : ℕ) (xs : List ℕ)
    → r < 65536
    → length xs ≡ 8
    → octets_in r xs
    ≡ bit_xor (bit_xor (bit_xor (bit_xor (bit_xor (bit_xor
    (made (get_or xs 2 0) 5) (made (get_or xs 3 0) 4)) (made (get_or xs 4 0) 3))
    (made (get_or xs 5 0) 2)) (made (get_or xs 6 0) 1)) (made (get_or xs 7 0) 0))
    (bit_xor (made (bit_xor (r / 256) (get_or xs 0 0)) 7)
    (made (bit_xor (r % 256) (get_or xs 1 0)) 6))
eight_sum r (a ∷ b ∷ c ∷ d ∷ e ∷ f ∷ g ∷ h ∷ []) hr l =
    let upper : ℕ = bit_xor (r / 256) a in
    let lower : ℕ = bit_xor (r % 256) b in
    added_first r a b (c ∷ d ∷ e ∷ f ∷ g ∷ h ∷ []) hr
    ∙ parts_are (upper ∷ lower ∷ c ∷ d ∷ e ∷ f ∷ g ∷ h ∷ [])
    ∙ first_last (made upper 7) (made lower 6) (made c 5) (made d 4) (made e 3) (made f 2)
    (made g 1) (made h 0)
eight_sum r [] hr l = absurd (omega arith)
eight_sum r (a ∷ []) hr l = absurd (omega arith)
eight_sum r (a ∷ b ∷ []) hr l = absurd (omega arith)
eight_sum r (a ∷ b ∷ c ∷ []) hr l = absurd (omega arith)
eight_sum r (a ∷ b ∷ c ∷ d ∷ []) hr l = absurd (omega arith)
eight_sum r (a ∷ b ∷ c ∷ d ∷ e ∷ []) hr l = absurd (omega arith)
eight_sum r (a ∷ b ∷ c ∷ d ∷ e ∷ f ∷ []) hr l = absurd (omega arith)
eight_sum r (a ∷ b ∷ c ∷ d ∷ e ∷ f ∷ g ∷ []) hr l = absurd (omega arith)
eight_sum r (a ∷ b ∷ c ∷ d ∷ e ∷ f ∷ g ∷ h ∷ i ∷ xs) hr l = absurd (omega arith)
