-- Digits are a text.
use Rattle.std.proofs.Common.{◌≡◌, true, nat_lt, refl, arith, length, drop, List, [], ◌∷◌, ℕ}
use Rattle.std.specs.List.{list_all}
use Rattle.std.proofs.lemmas.Bool.{and_parts}
use Rattle.std.proofs.lemmas.Bool.Decides.{nat_tests}
use Rattle.std.proofs.lemmas.Str.Ascii.{IsAscii-nil, IsAscii-cons}
use Rattle.std.specs.Str.{IsAscii}
use Rattle.std.proofs.lemmas.List.{take_at}
use Rattle.std.proofs.lemmas.Str.{IsUtf8-from_ascii}
use Rattle.hex.specs.Hex.{lower_digits}
use Rattle.hex.proofs.HexLemmas.{IsAscii-encode_with}
use Rattle.lpt_script_text.proofs.words.octets_word.Goals as goal

-- octets that pass the test are ASCII
ascii_from_test : (xs : List ℕ) → list_all (λ b. nat_lt b 128) xs ≡ true → IsAscii xs
ascii_from_test [] h = IsAscii-nil
ascii_from_test (x ∷ xs) h =
    let parts = and_parts (nat_lt x 128) (list_all (λ b. nat_lt b 128) xs) h in
    let small : nat_lt x 128 ≡ true = parts.0 in
    IsAscii-cons x xs (grind (arith, nat_tests)) (ascii_from_test xs parts.1)

digits_ascii : IsAscii lower_digits
digits_ascii = ascii_from_test lower_digits refl

pub from_utf8_unchecked-requires : goal.from_utf8_unchecked-requires
from_utf8_unchecked-requires c =
    let ascii = IsAscii-encode_with lower_digits c.args.octets.now digits_ascii in
    let digits : List ℕ = c.write_digits.new.digits in
    let len : length digits ≡ c.in_ok-digits.digits.len = omega arith in
    let text = IsUtf8-from_ascii _ (rw (← c.write_digits.ensures) at ascii) in
    rw (take_at digits (drop (length digits) c.in_ok-digits.digits.items) c.in_ok-digits.digits.len len) text
