-- What is written of a name is read back as that name.
use Rattle.std.proofs.Common.{◌≡◌, ◌∙◌, ap, sym, refl, ℕ, ◌+◌, ◌<◌, ◌^◌, ◌==◌, cond, nat_le, nat_lt, Bool, true, false, if◌then◌else◌, List, [], ◌∷◌, ◌++◌, length, take, drop, get_or, position, decimal, Option, Some, None, append_assoc, length-append, arith}
use Rattle.std.specs.Char.{is_ascii_digit}
use Rattle.std.specs.List.{list_all, position_or_len}
use Rattle.std.specs.Option.{option_map, option_zip}
use Rattle.std.proofs.lemmas.Bool.{and_from, and_parts, eqb-true}
use Rattle.std.proofs.lemmas.Bool.Decides.{nat_tests}
use Rattle.std.proofs.lemmas.Fmt.{decimal_is_IsNumeral, decimal_nonempty, digits_decimal, digits_value-decimal, length-decimal-le}
use Rattle.std.proofs.lemmas.Grind.{common_steps}
use Rattle.std.proofs.lemmas.List.{drop_at, get_or_at, take_at}
use Rattle.std.proofs.lemmas.List.Sums.{position_or_len_is}
use Rattle.std.proofs.lemmas.Str.Parse.{IsDigitsTest, IsNumeralModel, WeighsDigits, digit_at, numerals_by_weight}
use Rattle.lpt_packet.specs.Names.{IsName, Name, named_by}
use Rattle.lpt_events.specs.NameTexts.{name_text}
use Rattle.lpt_script_words.specs.Names.{cut_at, cut_source, name_of, source_of, u16_of}
use Rattle.lpt_script_words.specs.Numbers.{is_numeral, number_of, number_spelled}

-- ---- numbers

digits_test : IsDigitsTest (λ ds. list_all is_ascii_digit ds ≡ true)
digits_test = record {
  empty = refl;
  parts = λ c cs e.
      let k = and_parts (is_ascii_digit c) (list_all is_ascii_digit cs) e in
      let digit : is_ascii_digit c ≡ true = k.0 in
      ((grind (arith, nat_tests), grind (arith, nat_tests)), k.1);
  more = λ c cs k e.
      and_from (is_ascii_digit c) (list_all is_ascii_digit cs) (grind (arith, nat_tests, k.0, k.1)) e;
}

weights : WeighsDigits number_spelled
weights = record { empty = refl; more = λ c cs k. refl }

own : IsNumeralModel (λ ds. list_all is_ascii_digit ds ≡ true) number_spelled
own =
    numerals_by_weight (λ ds. list_all is_ascii_digit ds ≡ true) digits_test number_spelled weights

numeral : (n : ℕ) → n < 65536 → is_numeral (decimal n) ≡ true
numeral n small =
    let some = decimal_nonempty n (omega arith) in
    let few = length-decimal-le 5 n (omega arith) (omega arith) (omega arith) in
    let digits : list_all is_ascii_digit (decimal n) ≡ true = digits_decimal own n (omega arith) in
    grind (arith, nat_tests)

-- what is written of a number of 16 bits is read back
number-decimal : (n : ℕ) → n < 65536 → u16_of (decimal n) ≡ Some n
unfolding number_of
number-decimal n small =
    let value : number_spelled (decimal n) ≡ n = digits_value-decimal own n (omega arith) in
    let fits : nat_le n 65535 ≡ true = grind (arith, nat_tests) in
    rw (numeral n small, value, fits) refl

-- ---- slashes

no_digit : (n k : ℕ) → n < 65536 → k < length (decimal n) → (get_or (decimal n) k 0 == 47) ≡ false
no_digit n k small within =
    let digit = digit_at (decimal n) k (decimal_is_IsNumeral n (omega arith)).0.1 within in
    grind (arith, nat_tests)

none_in : (n : ℕ) → n < 65536 → position (λ b. b == 47) (decimal n) ≡ None
none_in n small =
    let ds = decimal n in
    let e : position_or_len (λ b. b == 47) ds ≡ length ds =
    position_or_len_is (λ b. b == 47) ds (length ds) 0 (omega arith)
    (λ k within. no_digit n k small within) (λ within. absurd (omega arith)) in
    let past : nat_lt (length ds) (length ds) ≡ false = grind (arith, nat_tests) in
    (λ i. cond (nat_lt (e i) (length ds)) (Some (e i)) None)
    ∙ (λ i. cond (past i) (Some (length ds)) None)

first_behind : (n : ℕ) (ys : List ℕ)
    → n < 65536
    → position (λ b. b == 47) (decimal n ++ 47 ∷ ys) ≡ Some (length (decimal n))
first_behind n ys small =
    let ds = decimal n in
    let all = ds ++ 47 ∷ ys in
    let long : length all ≡ length ds + (1 + length ys) = grind (arith, common_steps) in
    let e : position_or_len (λ b. b == 47) all ≡ length ds =
    position_or_len_is (λ b. b == 47) all (length ds) 0 (omega (arith, long))
    (λ k within.
    let other = no_digit n k small within in
    let same : get_or all k 0 ≡ get_or ds k 0 = grind (arith, common_steps) in
    ap (λ c. c == 47) same ∙ other)
    (λ within.
    ap (λ c. c == 47) (get_or_at ds 47 ys 0 (length ds) refl)) in
    let inside : nat_lt (length ds) (length all) ≡ true = grind (arith, nat_tests, long) in
    (λ i. cond (nat_lt (e i) (length all)) (Some (e i)) None)
    ∙ (λ i. cond (inside i) (Some (length ds)) None)

cut-alone : (n : ℕ) → n < 65536 → cut_source (decimal n) ≡ (None, decimal n)
cut-alone n small = ap (cut_at (decimal n)) (none_in n small)

cut-behind : (n : ℕ) (ys : List ℕ)
    → n < 65536
    → cut_source (decimal n ++ 47 ∷ ys) ≡ (Some (decimal n), ys)
cut-behind n ys small =
    let ds = decimal n in
    let front : take (length ds) (ds ++ 47 ∷ ys) ≡ ds = take_at ds (47 ∷ ys) (length ds) refl in
    let rest : drop (length ds + 1) (ds ++ 47 ∷ ys) ≡ ys =
    ap (drop (length ds + 1)) (sym (append_assoc ds (47 ∷ []) ys))
    ∙ drop_at (ds ++ 47 ∷ []) ys (length ds + 1) (length-append ds (47 ∷ [])) in
    ap (cut_at (ds ++ 47 ∷ ys)) (first_behind n ys small) ∙ (λ i. (Some (front i), rest i))

-- ---- names

-- a name by the two sides of a word
abbrev name_by : (source : ℕ) → Option (List ℕ) × List ℕ → Option Name
name_by source c =
    option_map (λ n. named_by n.0 n.1) (option_zip (source_of source c.0) (u16_of c.1))

-- whatever source is configured
pub printed_read : (source : ℕ) (n : Name) → IsName n → name_of source (name_text source n) ≡ Some n
printed_read source n is = by_test (n.source == source) refl
  where
    id_read : u16_of (decimal n.id) ≡ Some n.id
    id_read = number-decimal n.id is.id_fits

    source_read : u16_of (decimal n.source) ≡ Some n.source
    source_read = number-decimal n.source is.source_fits

    by_test : (b : Bool) → (n.source == source) ≡ b
        → name_of source
        (if b then decimal n.id else decimal n.source ++ 47 ∷ decimal n.id) ≡ Some n
    by_test true e =
        ap (name_by source) (cut-alone n.id is.id_fits)
        ∙ ap (λ i. option_map (λ m. named_by m.0 m.1) (option_zip (Some source) i)) id_read
        ∙ ap (λ s. Some (named_by s n.id)) (sym (eqb-true n.source source e))
    by_test false e =
        ap (name_by source) (cut-behind n.source (decimal n.id) is.source_fits)
        ∙ (λ i. option_map (λ m. named_by m.0 m.1) (option_zip (source_read i) (id_read i)))
