-- The pieces of a text round an octet, and its lines.
use Rattle.std.proofs.Common.{◌≡◌, ℕ, ◌+◌, ◌<◌, ◌==◌, Bool, true, false, cond, List, [], ◌∷◌, length, take, drop, map, position, Some, None, refl, sym, ap, ◌∙◌, ◌++◌, inl, inr, append_assoc, append-nil, length-append, arith}
use Rattle.std.specs.List.{onto_first, slice_split, position_or_len}
use Rattle.std.proofs.lemmas.Bool.{ltb-false}
use Rattle.std.proofs.lemmas.List.Quantifiers.{position-Some}
use Rattle.std.proofs.lemmas.List.Splits.{slice_split_first, slice_split_none, length-slice_split}
use Rattle.std.proofs.lemmas.List.Sums.{position_or_len_is, fails_before_first}
use Rattle.lpt_text.specs.Reading.{EndsLine}
use Rattle.lpt_text.specs.Texts.{is_filled, ended_line, lines_of_pieces, lines}

-- ---- the pieces round one place

-- the first piece ends where the test first passes
pub slice_split-place : (p : ℕ → Bool) (xs : List ℕ) (n : ℕ)
    → position p xs ≡ Some n
    → slice_split p xs ≡ take n xs ∷ slice_split p (drop (n + 1) xs)
slice_split-place p xs n h =
    let at = position-Some p xs n 0 h in
    let within : n < length xs = at.0 in
    let e : position_or_len p xs ≡ n =
    position_or_len_is p xs n 0 (omega arith) at.2 (λ _. at.1)
    in
    let inside : position_or_len p xs < length xs = rw e within in
    rw e at (slice_split_first p xs 0 inside)

no_place : (b : Bool) (n : ℕ) → cond b (Some n) None ≡ None → b ≡ false
no_place true n h = cc
no_place false n h = refl

-- where the test never passes, there is one piece
pub slice_split-nowhere : (p : ℕ → Bool) (xs : List ℕ)
    → position p xs ≡ None
    → slice_split p xs ≡ xs ∷ []
slice_split-nowhere p xs h =
    let past = ltb-false (position_or_len p xs) (length xs) (no_place _ _ h) in
    slice_split_none p xs (λ k d l. fails_before_first p xs k d (omega arith))

-- a text that isn't empty is a piece with an octet
pub filled : (xs : List ℕ) → 0 < length xs → is_filled xs ≡ true
filled [] h = absurd (omega arith)
filled (x ∷ xs) h = refl

-- ---- lines

onto_line : (line : List ℕ) (parts : List (List ℕ))
    → 0 < length parts
    → lines_of_pieces (line ∷ parts) ≡ ended_line line ∷ lines_of_pieces parts
onto_line line [] h = absurd (omega arith)
onto_line line (part ∷ more) h = refl

last_line : (line : List ℕ) → 0 < length line → lines_of_pieces (line ∷ []) ≡ line ∷ []
last_line line some = rw (filled line some) refl

-- the first line ends at the first line feed
pub lines-place : (xs : List ℕ) (n : ℕ)
    → position (λ b. b == 10) xs ≡ Some n
    → lines xs ≡ ended_line (take n xs) ∷ lines (drop (n + 1) xs)
lines-place xs n h =
    let more = drop (n + 1) xs in
    let some = length-slice_split (λ b. b == 10) more in
    rw (slice_split-place (λ b. b == 10) xs n h)
    (onto_line (take n xs) (slice_split (λ b. b == 10) more) (omega arith))

-- a text with no line feed is one line
pub lines-nowhere : (xs : List ℕ)
    → position (λ b. b == 10) xs ≡ None
    → 0 < length xs
    → lines xs ≡ xs ∷ []
lines-nowhere xs h some = rw (slice_split-nowhere (λ b. b == 10) xs h) (last_line xs some)

-- ---- lines behind lines

onto_more : (x : ℕ) (parts more : List (List ℕ))
    → 0 < length parts
    → onto_first x (parts ++ more) ≡ onto_first x parts ++ more
onto_more x [] more some = absurd (omega arith)
onto_more x (part ∷ parts) more some = refl

-- a line feed parts the pieces
split_onto : (xs ys : List ℕ)
    → slice_split (λ b. b == 10) (xs ++ 10 ∷ ys)
    ≡ slice_split (λ b. b == 10) xs ++ slice_split (λ b. b == 10) ys
split_onto [] ys = refl
split_onto (x ∷ xs) ys = by_end (x == 10) refl (split_onto xs ys)
  where
    by_end : (e : Bool) → (x == 10) ≡ e
        → slice_split (λ b. b == 10) (xs ++ 10 ∷ ys)
        ≡ slice_split (λ b. b == 10) xs ++ slice_split (λ b. b == 10) ys
        → slice_split (λ b. b == 10) ((x ∷ xs) ++ 10 ∷ ys)
        ≡ slice_split (λ b. b == 10) (x ∷ xs) ++ slice_split (λ b. b == 10) ys
    by_end true is more = rw is (ap (λ ls. [] ∷ ls) more)
    by_end false is more =
        rw is
        (ap (onto_first x) more
        ∙ onto_more x (slice_split (λ b. b == 10) xs) (slice_split (λ b. b == 10) ys)
        (omega (arith, length-slice_split (λ b. b == 10) xs)))

-- pieces that others follow are ended lines
pieces_before : (parts more : List (List ℕ))
    → 0 < length more
    → lines_of_pieces (parts ++ more) ≡ map ended_line parts ++ lines_of_pieces more
pieces_before [] more some = refl
pieces_before (part ∷ parts) more some =
    onto_line part (parts ++ more) (omega (arith, length-append parts more))
    ∙ ap (λ ls. ended_line part ∷ ls) (pieces_before parts more some)

-- lines, and what follows them
pub lines-append : (front more : List ℕ)
    → EndsLine front
    → lines (front ++ more) ≡ lines front ++ lines more
lines-append front more (inl none) =
    ap (λ x. lines (x ++ more)) none ∙ ap (λ x. lines x ++ lines more) (sym none)
lines-append front more (inr (line, is)) =
    ap (λ x. lines (x ++ more)) is
    ∙ ap lines (append_assoc line (10 ∷ []) more)
    ∙ before more
    ∙ ap (λ ls. ls ++ lines more)
    (sym (append-nil (map ended_line (slice_split (λ b. b == 10) line))) ∙ sym (before [])
    ∙ ap lines (sym is))
  where
    before : (more : List ℕ) → lines (line ++ 10 ∷ more)
        ≡ map ended_line (slice_split (λ b. b == 10) line) ++ lines more
    before more =
        ap lines_of_pieces (split_onto line more)
        ∙ pieces_before (slice_split (λ b. b == 10) line) (slice_split (λ b. b == 10) more)
        (omega (arith, length-slice_split (λ b. b == 10) more))

-- the last of them is too long
pub lines-long_end : (front line : List ℕ)
    → EndsLine front
    → position (λ b. b == 10) line ≡ None
    → 0 < length line
    → lines (front ++ line) ≡ lines front ++ line ∷ []
lines-long_end front line ends none some =
    lines-append front line ends ∙ ap (λ ls. lines front ++ ls) (lines-nowhere line none some)
