-- Words that spell octets, judged without memory.
use Rattle.std.proofs.Common.{◌≡◌, ℕ, ◌-◌, ◌/◌, ◌%◌, ◌==◌, ◌&&◌, ◌||◌, Bool, true, false, if◌then◌else◌, nat_le, List, length, codes, get_or, Option, Some, None, is_some, option_map, Result, Ok, Err, refl, sym, ◌∙◌, ap, arith}
use Rattle.std.proofs.lemmas.Bool.{and_parts, and_from, eqb-true}
use Rattle.std.proofs.lemmas.List.Sums.{AllPass-from_list_all, list_all-from_AllPass}
use Rattle.std.specs.Char.{is_ascii_hexdigit}
use Rattle.std.specs.List.{AllPass, list_all}
use Rattle.hex.specs.Hex.{decode_of, is_hex_digit}
use Rattle.hex.specs.declared.error.FromHexError.{FromHexError}
use Rattle.hex.proofs.HexLemmas.{decode_of-even, decode_of-ok, decode_pairs-digits}
use Rattle.lpt_script_words.specs.Numbers.{is_word, octets_decoded, octets_of}

-- what isn't there is nothing
pub none_of : {A : Type 0} (o : Option A) → is_some o ≡ false → o ≡ None
none_of None h = refl
none_of (Some x) h = absurd cc

-- ---- digits

digit_parts : (a b d : Bool) (x y z : ℕ)
    → is_some (if a then Some x else if b then Some y else if d then Some z else None)
    ≡ ((d || a) || b)
digit_parts true b true x y z = refl
digit_parts true b false x y z = refl
digit_parts false true true x y z = refl
digit_parts false true false x y z = refl
digit_parts false false true x y z = refl
digit_parts false false false x y z = refl

-- both kits' words for a digit say the same
digit_same : (c : ℕ) → is_hex_digit c ≡ is_ascii_hexdigit c
digit_same c =
    digit_parts (nat_le 65 c && nat_le c 70) (nat_le 97 c && nat_le c 102)
    (nat_le 48 c && nat_le c 57) (c - 55) (c - 87) (c - 48)

-- ---- pairs of digits

-- pairs of digits decode
pairs_decode : (word : List ℕ) (r : Result (List ℕ) FromHexError)
    → decode_of word ≡ r
    → (length word % 2 == 0 && list_all is_ascii_hexdigit word) ≡ true
    → is_some (octets_decoded r) ≡ true
pairs_decode word (Ok octets) read h = refl
pairs_decode word (Err fault) read h =
    let parts = and_parts (length word % 2 == 0) (list_all is_ascii_hexdigit word) h in
    let even : length word % 2 ≡ 0 = eqb-true (length word % 2) 0 parts.0 in
    let digits = AllPass-from_list_all is_ascii_hexdigit word parts.1 in
    let all : AllPass is_hex_digit word =
    λ k d l. digit_same (get_or word k d) ∙ digits k d l in
    let some = decode_pairs-digits 0 word even all in
    absurd (cc (sym read ∙ decode_of-even word even ∙ some.1))

-- what decodes is pairs of digits
decodes_pairs : (word : List ℕ) (r : Result (List ℕ) FromHexError)
    → decode_of word ≡ r
    → is_some (octets_decoded r) ≡ true
    → (length word % 2 == 0 && list_all is_ascii_hexdigit word) ≡ true
decodes_pairs word (Err fault) read h = absurd cc
decodes_pairs word (Ok octets) read h =
    let ok = decode_of-ok word octets read in
    let even : (length word % 2 == 0) ≡ true = rw (ok.0) refl in
    let all : AllPass is_ascii_hexdigit word =
    λ k d l. sym (digit_same (get_or word k d)) ∙ ok.1 k d l in
    and_from (length word % 2 == 0) (list_all is_ascii_hexdigit word) even
    (list_all-from_AllPass is_ascii_hexdigit word all)

same_test : (a b : Bool) → (a ≡ true → b ≡ true) → (b ≡ true → a ≡ true) → a ≡ b
same_test true true f g = refl
same_test true false f g = sym (f refl)
same_test false true f g = g refl
same_test false false f g = refl

-- pairs of digits are what decodes
pub are_pairs : (word : List ℕ)
    → (length word % 2 == 0 && list_all is_ascii_hexdigit word)
    ≡ is_some (octets_decoded (decode_of word))
are_pairs word =
    same_test (length word % 2 == 0 && list_all is_ascii_hexdigit word)
    (is_some (octets_decoded (decode_of word)))
    (pairs_decode word (decode_of word) refl) (decodes_pairs word (decode_of word) refl)

-- where their number is even, the digits decide
pub are_pairs-even : (word : List ℕ)
    → length word % 2 ≡ 0
    → list_all is_ascii_hexdigit word ≡ is_some (octets_decoded (decode_of word))
are_pairs-even word even =
    let test : (length word % 2 == 0) ≡ true = rw even refl in
    sym (ap (λ b. b && list_all is_ascii_hexdigit word) test) ∙ are_pairs word

digits_read : (word : List ℕ) (r : Result (List ℕ) FromHexError)
    → decode_of word ≡ r
    → is_some (octets_decoded r) ≡ true
    → (length word % 2 ≡ 0) × AllPass is_hex_digit word
digits_read word (Err fault) read h = absurd cc
digits_read word (Ok octets) read h =
    let ok = decode_of-ok word octets read in
    (ok.0, ok.1)

-- what decodes is an even number of digits
pub digits-decoded : (word : List ℕ)
    → is_some (octets_decoded (decode_of word)) ≡ true
    → (length word % 2 ≡ 0) × AllPass is_hex_digit word
digits-decoded word h = digits_read word (decode_of word) refl h

length_read : (word : List ℕ) (r : Result (List ℕ) FromHexError)
    → decode_of word ≡ r
    → is_some (octets_decoded r) ≡ true
    → Some (length word / 2) ≡ option_map length (octets_decoded r)
length_read word (Err fault) read h = absurd cc
length_read word (Ok octets) read h =
    let twice = (decode_of-ok word octets read).2 in
    ap Some (omega (arith, twice))

-- an octet for each pair
length-decoded : (word : List ℕ)
    → is_some (octets_decoded (decode_of word)) ≡ true
    → Some (length word / 2) ≡ option_map length (octets_decoded (decode_of word))
length-decoded word h = length_read word (decode_of word) refl h

-- the same of a word that isn't the one of no octets
pub length-octets_of : (word : List ℕ)
    → is_word (codes "-") word ≡ false
    → (length word == 0) ≡ false
    → is_some (octets_decoded (decode_of word)) ≡ true
    → Some (length word / 2) ≡ option_map length (octets_of word)
unfolding octets_of
length-octets_of word other filled pairs = rw (other, filled) (length-decoded word pairs)
