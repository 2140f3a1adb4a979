-- The sixteen digits are computed.
use Rattle.std.proofs.Common.{◌≡◌, ◌∙◌, ap, sym, refl, ℕ, ◌+◌, ◌<◌, if◌then◌else◌, nat_lt, List, get_or, map, arith}
use Rattle.std.specs.List.{range_with_len}
use Rattle.std.proofs.lemmas.Grind.{common_steps}
use Rattle.std.proofs.lemmas.List.FromFn.{get_or-map-range_with_len}
use Rattle.hex.specs.Hex.{lower_digits}
use Rattle.lpt_script_text.proofs.words.digit_of.Goals as goal

abbrev digit : ℕ → ℕ
digit value = if nat_lt value 10 then 48 + value else 87 + value

-- all sixteen at once
digits_are : lower_digits ≡ map digit (range_with_len 0 16)
digits_are = refl

digit_is : (value : ℕ) → value < 16 → digit value ≡ get_or lower_digits value 0
digit_is value h =
    sym (ap (λ (digits : List ℕ). get_or digits value 0) digits_are
    ∙ get_or-map-range_with_len digit 0 16 value value 0 h (omega arith))

pub returns-then-value-lt10 : goal.returns-then-value-lt10
returns-then-value-lt10 c =
    let is = digit_is c.args.value c.requires in
    grind (arith, common_steps, is)

pub returns-else-value-lt10 : goal.returns-else-value-lt10
returns-else-value-lt10 c =
    let is = digit_is c.args.value c.requires in
    grind (arith, common_steps, is)
