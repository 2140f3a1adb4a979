-- Numbers and octets as words spell them.
use Rattle.std.specs.Prelude.{ℕ, ◌+◌, ◌-◌, ◌*◌, ◌^◌, ◌==◌, ◌&&◌, Bool, if◌then◌else◌, nat_le, nat_eq, List, [], ◌∷◌, length, Option, Some, None, codes, Result, Ok, Err}
use Rattle.std.specs.List.{list_all}
use Rattle.std.specs.Char.{is_ascii_digit}
use Rattle.std.specs.Cmp.Lexicographic.{pointwise}
use Rattle.hex.specs.Hex.{decode_of}
use Rattle.hex.specs.declared.error.FromHexError.{FromHexError}

-- whether a word is this text
abbrev pub is_word : List ℕ → List ℕ → Bool
is_word text word = pointwise nat_eq word text

-- whether a word has 1 to 10 decimal digits and nothing else
abbrev pub is_numeral : List ℕ → Bool
is_numeral word =
    nat_le 1 (length word) && nat_le (length word) 10 && list_all is_ascii_digit word

-- the number that digits spell: each stands for its value times a power of ten
abbrev pub number_spelled : List ℕ → ℕ
number_spelled [] = 0
number_spelled (digit ∷ more) = (digit - 48) * 10 ^ length more + number_spelled more

-- the number of a word of 1 to 10 digits, if it is at most the greatest
unfoldable pub number_of : ℕ → List ℕ → Option ℕ
number_of greatest word =
    if is_numeral word
    then (if nat_le (number_spelled word) greatest then Some (number_spelled word) else None)
    else None

-- the value that decoding gave
abbrev pub octets_decoded : Result (List ℕ) FromHexError → Option (List ℕ)
octets_decoded (Ok octets) = Some octets
octets_decoded (Err fault) = None

-- the octets of an even number of hexadecimal digits, at least two; none of `-`
unfoldable pub octets_of : List ℕ → Option (List ℕ)
octets_of word =
    if is_word (codes "-") word then Some []
    else if length word == 0 then None
    else octets_decoded (decode_of word)
