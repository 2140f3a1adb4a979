-- Registers before each 64th octet.
use Rattle.std.proofs.Common.{◌≡◌, ◌∙◌, ap, sym, refl, ℕ, ◌+◌, ◌-◌, ◌*◌, ◌<◌, ◌≤◌, ◌==◌, Bool, true, false, List, [], ◌∷◌, length, take, drop, get_or, set, length-drop, arith}
use Rattle.std.proofs.lemmas.Bool.Decides.{nat_tests}
use Rattle.std.proofs.Math.Seq.{take-add}
use Rattle.std.proofs.lemmas.List.{get_or-set_same, get_or-set_other, length-take-le, take_more}
use Rattle.std.specs.Int.Bits.{bit_xor}
use Rattle.lpt_packet.specs.Checksums.{bits, shift_all, octets_in, checksum}
use Rattle.lpt_packet.proofs.Registers.{octets_in-append}
use Rattle.lpt_stream.specs.Registers.{AreMarks, zeros_in}
use Rattle.lpt_stream.proofs.RegisterLemmas.{octets_in-one}
use Rattle.lpt_stream.proofs.SumLemmas.{frame-sum}

-- the register behind some octets is what those behind a place before make of the register there
pub further : (n m r : ℕ) (b : List ℕ)
    → octets_in (octets_in r (take n b)) (take m (drop n b)) ≡ octets_in r (take (n + m) b)
further n m r b =
    sym (octets_in-append r (take n b) (take m (drop n b)))
    ∙ ap (octets_in r) (sym (take-add n m b))

-- from a mark
pub from_mark : (k e mark : ℕ) (b : List ℕ)
    → k ≤ e
    → mark ≡ octets_in 0 (take k b)
    → octets_in mark (take (e - k) (drop k b)) ≡ octets_in 0 (take e b)
from_mark k e mark b h is =
    let both : k + (e - k) ≡ e = omega (arith, h) in
    ap (λ r. octets_in r (take (e - k) (drop k b))) is
    ∙ further k (e - k) 0 b
    ∙ ap (λ m. octets_in 0 (take m b)) both

-- one octet further
pub one_further : (n r before : ℕ) (b : List ℕ)
    → n < length b
    → before ≡ octets_in r (take n b)
    → shift_all before (bits (get_or b n 0)) ≡ octets_in r (take (n + 1) b)
one_further n r before b some is =
    ap (λ x. shift_all x (bits (get_or b n 0))) is
    ∙ sym (octets_in-one (octets_in r (take n b)) (get_or b n 0))
    ∙ sym (octets_in-append r (take n b) (get_or b n 0 ∷ []))
    ∙ ap (octets_in r) (sym (take_more b n 0 some))

-- octets whose checksum is 0 take the register before them to the one behind them, as zeros do
pub zero-marked : (at n before behind : ℕ) (b : List ℕ)
    → at + n ≤ length b
    → before < 65536
    → before ≡ octets_in 0 (take at b)
    → behind ≡ octets_in 0 (take (at + n) b)
    → checksum (take n (drop at b)) ≡ 0
    → zeros_in (bit_xor before 65535) n ≡ behind
zero-marked at n before behind b within fits is_before is_behind none =
    let left = length-drop at b in
    let size = length-take-le n (drop at b) (omega (arith, left, within)) in
    ap (zeros_in (bit_xor before 65535)) (sym size)
    ∙ sym (frame-sum before (take n (drop at b)) fits none)
    ∙ ap (λ r. octets_in r (take n (drop at b))) is_before
    ∙ further at n 0 b
    ∙ sym is_behind

-- of none
pub marks-none : (room b : List ℕ) → AreMarks 0 room b
marks-none room b n h = absurd (omega (arith, h))

pub before_none : (b : List ℕ) → 0 ≡ octets_in 0 (take 0 b)
unfolding octets_in
before_none b = refl

-- the first
pub marks-first : (room b : List ℕ) → 0 < length room → AreMarks 1 (set room 0 0) b
marks-first room b some n within =
    let none : n ≡ 0 = omega (arith, within) in (
      omega (arith, none),
      ap (λ k. get_or (set room 0 0) k 0) none
          ∙ get_or-set_same room 0 0 0 some
          ∙ before_none b
          ∙ sym (ap (λ k. octets_in 0 (take (k * 64) b)) none),
    )

-- one more
pub marks-next : (count r : ℕ) (room b : List ℕ)
    → AreMarks count room b
    → count < length room
    → count * 64 ≤ length b
    → r ≡ octets_in 0 (take (count * 64) b)
    → AreMarks (count + 1) (set room count r) b
marks-next count r room b h fits within is n before = go (n == count) refl where
  go : (t : Bool) → (n == count) ≡ t → (n * 64 ≤ length b)
      × (get_or (set room count r) n 0 ≡ octets_in 0 (take (n * 64) b))
  go true e =
      let here : n ≡ count = grind (arith, nat_tests, e) in (
        omega (arith, here, within),
        ap (λ k. get_or (set room count r) k 0) here
            ∙ get_or-set_same room count r 0 fits
            ∙ is
            ∙ sym (ap (λ k. octets_in 0 (take (k * 64) b)) here),
      )
  go false e =
      let there : n < count = grind (arith, nat_tests, e, before) in
      let kept = h n there in (
        kept.0,
        get_or-set_other room count n r 0 (λ same. absurd (omega (arith, there, same))) ∙ kept.1,
      )
