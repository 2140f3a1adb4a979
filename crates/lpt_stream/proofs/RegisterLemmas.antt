-- Registers along a stretch of octets, and what zeros make of the register 1.
use Rattle.std.proofs.Common.{◌≡◌, ◌∙◌, ap, sym, refl, ℕ, suc, ◌+◌, ◌-◌, ◌<◌, ◌≤◌, ◌==◌, Bool, true, false, List, [], ◌∷◌, ◌++◌, length, take, drop, get_or, arith, length-append, length-drop}
use Rattle.std.proofs.lemmas.Bool.Decides.{nat_tests}
use Rattle.std.proofs.Math.Seq.{take-add}
use Rattle.std.proofs.lemmas.List.{get_or_append_left, get_or_push, length-take-le, length_push, take-append-le, take_more}
use Rattle.std.specs.Int.Bits.{bit_xor}
use Rattle.lpt_packet.specs.Checksums.{bits, shift_all, octets_in, checksum}
use Rattle.lpt_packet.proofs.Registers.{octets_in-append}
use Rattle.lpt_stream.specs.Registers.{zeros_in, ArePowers, AreRegisters}
use Rattle.lpt_stream.proofs.SumLemmas.{frame-sum, zeros-last}

-- ---- registers

octets_in-none : (r : ℕ) → octets_in r [] ≡ r
unfolding octets_in
octets_in-none r = refl

pub octets_in-one : (r x : ℕ) → octets_in r (x ∷ []) ≡ shift_all r (bits x)
unfolding octets_in
octets_in-one r x = refl

-- of none
pub registers-none : (at : ℕ) (b : List ℕ) → AreRegisters at [] b
registers-none at b n h = absurd (omega (arith, h))

-- of octets that are passed over
pub registers-pass : (at n : ℕ) (rs b : List ℕ)
    → at + n < length rs
    → AreRegisters at rs b
    → AreRegisters (at + n) rs (drop n b)
registers-pass at n rs b some h k within =
    let here = h n some in
    let both : at + n + k ≡ at + (n + k) = omega arith in
    let there = h (n + k) (omega (arith, within)) in
    let size = length-drop n b in (
      omega (arith, size, there.0),
      ap (λ i. get_or rs i 0) both ∙ there.1
          ∙ ap (octets_in (get_or rs at 0)) (take-add n k b)
          ∙ octets_in-append (get_or rs at 0) (take n b) (take k (drop n b))
          ∙ ap (λ r. octets_in r (take k (drop n b))) (sym here.1),
    )

-- with octets behind
pub registers-more : (at : ℕ) (rs b more : List ℕ)
    → AreRegisters at rs b
    → AreRegisters at rs (b ++ more)
registers-more at rs b more h n within =
    let here = h n within in
    let size = length-append b more in (
      omega (arith, size, here.0),
      here.1 ∙ ap (octets_in (get_or rs at 0)) (sym (take-append-le n b more here.0)),
    )

-- a first one
pub registers-first : (at r : ℕ) (rs b : List ℕ)
    → length rs ≡ at
    → AreRegisters at (rs ++ r ∷ []) b
registers-first at r rs b size n within =
    let long = length_push rs r in
    let none : n ≡ 0 = omega (arith, within, long, size) in
    let here : at + n ≡ at = omega (arith, none) in (
      omega (arith, none),
      ap (λ i. get_or (rs ++ r ∷ []) i 0) here
          ∙ sym (octets_in-none (get_or (rs ++ r ∷ []) at 0))
          ∙ ap (λ k. octets_in (get_or (rs ++ r ∷ []) at 0) (take k b)) (sym none),
    )

-- one more
pub registers-push : (at last r : ℕ) (rs b : List ℕ)
    → AreRegisters at rs b
    → at ≤ last
    → length rs ≡ last + 1
    → last - at < length b
    → r ≡ shift_all (get_or rs last 0) (bits (get_or b (last - at) 0))
    → AreRegisters at (rs ++ r ∷ []) b
registers-push at last r rs b h least size some is n within =
    go (at + n == last + 1) refl where
      first : get_or (rs ++ r ∷ []) at 0 ≡ get_or rs at 0
      first = get_or_append_left rs (r ∷ []) 0 at (omega (arith, least, size))

      go : (t : Bool) → (at + n == last + 1) ≡ t → (n ≤ length b)
          × (get_or (rs ++ r ∷ []) (at + n) 0 ≡ octets_in (get_or (rs ++ r ∷ []) at 0) (take n b))
      go false e =
          let long = length_push rs r in
          let before : at + n < length rs = grind (arith, nat_tests, e, within, long, size) in
          let here = h n before in (
            here.0,
            get_or_append_left rs (r ∷ []) 0 (at + n) before ∙ here.1
                ∙ ap (λ x. octets_in x (take n b)) (sym first),
          )
      go true e =
          let m = last - at in
          let here = h m (omega (arith, least, size)) in
          let end : at + n ≡ last + 1 = grind (arith, nat_tests, e) in
          let one : n ≡ m + 1 = omega (arith, end, least) in
          let place : at + m ≡ last = omega (arith, least) in (
            omega (arith, one, some),
            get_or_push rs r 0 (at + n) (size ∙ sym end) ∙ is
                ∙ ap (λ x. shift_all x (bits (get_or b m 0)))
                (ap (λ i. get_or rs i 0) (sym place) ∙ here.1)
                ∙ sym (octets_in-one (octets_in (get_or rs at 0) (take m b)) (get_or b m 0))
                ∙ sym (octets_in-append (get_or rs at 0) (take m b) (get_or b m 0 ∷ []))
                ∙ ap (octets_in (get_or rs at 0)) (sym (take_more b m 0 some))
                ∙ ap (λ k. octets_in (get_or rs at 0) (take k b)) (sym one)
                ∙ ap (λ x. octets_in x (take n b)) (sym first),
          )

-- ---- powers

-- of none
pub powers-none : ArePowers []
powers-none n h = absurd (omega (arith, h))

-- the first one
pub powers-first : (ps : List ℕ) → length ps ≡ 0 → ArePowers (ps ++ 1 ∷ [])
powers-first ps size n within =
    let long = length_push ps 1 in
    let none : n ≡ 0 = omega (arith, within, long, size) in
    get_or_push ps 1 0 n (size ∙ sym none) ∙ ap (zeros_in 1) (sym none)

-- one more

pub powers-push : (last r : ℕ) (ps : List ℕ)
    → ArePowers ps
    → length ps ≡ last + 1
    → r ≡ shift_all (get_or ps last 0) (bits 0)
    → ArePowers (ps ++ r ∷ [])
powers-push last r ps h size is n within = go (n == last + 1) refl where
  go : (t : Bool) → (n == last + 1) ≡ t → get_or (ps ++ r ∷ []) n 0 ≡ zeros_in 1 n
  go false e =
      let long = length_push ps r in
      let before : n < length ps = grind (arith, nat_tests, e, within, long, size) in
      get_or_append_left ps (r ∷ []) 0 n before ∙ h n before
  go true e =
      let end : n ≡ last + 1 = grind (arith, nat_tests, e) in
      let next : n ≡ suc last = omega (arith, end) in
      get_or_push ps r 0 n (size ∙ sym end) ∙ is
      ∙ ap (λ x. shift_all x (bits 0)) (h last (omega (arith, size)))
      ∙ sym (zeros-last last 1)
      ∙ ap (zeros_in 1) (sym next)

-- ---- frames

-- octets whose checksum is 0 take the register before them to the one behind them, as zeros do
pub zero-fits : (at n before behind : ℕ) (rs b : List ℕ)
    → AreRegisters at rs b
    → at + n < length rs
    → before < 65536
    → before ≡ get_or rs at 0
    → behind ≡ get_or rs (at + n) 0
    → checksum (take n b) ≡ 0
    → zeros_in (bit_xor before 65535) n ≡ behind
zero-fits at n before behind rs b h within fits is_before is_behind none =
    let here = h n within in
    let size = length-take-le n b here.0 in
    ap (zeros_in (bit_xor before 65535)) (sym size)
    ∙ sym (frame-sum before (take n b) fits none)
    ∙ ap (λ r. octets_in r (take n b)) is_before
    ∙ sym here.1
    ∙ sym is_behind
