-- The digit at a place stands in front of those at lesser ones.
use Rattle.std.proofs.Common.{◌≡◌, ◌∙◌, ap, sym, refl, [], ℕ, suc, ◌+◌, ◌-◌, ◌/◌, ◌%◌, ◌^◌, ◌++◌, ◌∷◌, append_assoc, append-nil, arith}
use Rattle.std.specs.String.{string_bytes}
use Rattle.jiff_fmt.proofs.ReaderLemmas.{ten_pow-pos}
use Rattle.lpt_carried.specs.Times.{digits}
use Rattle.lpt_carried.proofs.text.add_number.Goals as goal

digits-some : (p k n : ℕ) → p ≡ k + 1 → digits p n ≡ (48 + n / 10 ^ k % 10) ∷ digits k n
unfolding digits
digits-some p k n is = let more : p ≡ suc k = omega arith in rw more refl

digits-none : (p n : ℕ) → p ≡ 0 → digits p n ≡ []
unfolding digits
digits-none p n is = rw is refl

pub nonzero_div-digit : goal.nonzero_div-digit
nonzero_div-digit c = rw c.pow.ensures (ten_pow-pos c.from.result)

pub loop-place-preserved : goal.loop-place-preserved
loop-place-preserved c =
    let k = c.loop-place.place - 1 in
    let n = c.args.number in
    let text = string_bytes c.loop-place.text in
    let glyph = c.from-in-loop-place.result in
    let is : glyph ≡ 48 + n / 10 ^ k % 10 =
    c.from-in-loop-place.ensures
    ∙ ap (λ power. 48 + n / power % 10) (c.pow.ensures ∙ ap (λ e. 10 ^ e) c.from.ensures) in
    let one = c.push-in-loop-place.ensures.ascii (omega (arith, is)) in
    ap (λ bs. bs ++ digits k n) (c.in_ok-push-2.ensures.bytes ∙ ap (λ bs. text ++ bs) one)
    ∙ append_assoc text (glyph ∷ []) (digits k n)
    ∙ ap (λ g. text ++ g ∷ digits k n) is
    ∙ ap (λ ds. text ++ ds) (sym (digits-some c.loop-place.place k n (omega arith)))
    ∙ c.loop-place.invariant

pub returns : goal.returns
returns c =
    sym (append-nil (string_bytes c.loop-place.text))
    ∙ ap (λ ds. string_bytes c.loop-place.text ++ ds)
    (sym (digits-none c.loop-place.place c.args.number (omega arith)))
    ∙ c.loop-place.invariant
