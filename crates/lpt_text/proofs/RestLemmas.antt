-- The lines of a text that comes piece by piece.
use Rattle.std.proofs.Common.{◌≡◌, ◌∙◌, ap, sym, refl, ℕ, ◌+◌, ◌<◌, ◌==◌, nat_lt, is_none, Bool, true, false, List, [], ◌∷◌, ◌++◌, length, take, drop, Option, Some, None, inl, inr, append_assoc, append-nil, length-append, take_all, subst, ◌≤◌, arith}
use Rattle.std.proofs.Math.Seq.{take-append-add}
use Rattle.std.proofs.lemmas.Bool.Decides.{nat_tests}
use Rattle.std.proofs.lemmas.List.{drop_at, drop-drop, length-take-le, take_at}
use Rattle.std.proofs.lemmas.List.Quantifiers.{position-Some}
use Rattle.lpt_text.proofs.LineLemmas.{line_end-behind, line_end-nowhere, line_end-split, line_end-then}
use Rattle.lpt_text.proofs.Pieces.{lines-nowhere, lines-place}
use Rattle.lpt_text.specs.Lines.{line_end}
use Rattle.lpt_text.specs.Taking.{IsBehind}
use Rattle.lpt_text.specs.TakingInside.{IsPiece, piece_lines}
use Rattle.lpt_text.specs.Texts.{ended_line, lines}

-- what follows the line end there
abbrev behind_end : List ℕ → Option ℕ → List ℕ
behind_end text None = []
behind_end text (Some n) = drop (n + 1) text

-- the lines from here on, or those behind a first one that was taken by its front
abbrev pub rest_lines : (is_taken : Bool) → List ℕ → List (List ℕ)
rest_lines false text = lines text
rest_lines true text = lines (behind_end text (line_end text))

-- the octets behind a line end, where it is the first
drop-first : (text more : List ℕ) (n : ℕ)
    → line_end text ≡ Some n
    → drop (n + 1) (take (n + 1) text ++ more) ≡ more
drop-first text more n at =
    let found = position-Some (λ b. b == 10) text n 0 at in
    drop_at (take (n + 1) text) more (n + 1) (length-take-le (n + 1) text (omega (arith, found.0)))

-- where the first line ends there, it is cut from the others
pub lines-first : (text more : List ℕ) (n : ℕ)
    → line_end text ≡ Some n
    → lines (take (n + 1) text ++ more) ≡ ended_line (take n text) ∷ lines more
lines-first text more n at =
    let found = position-Some (λ b. b == 10) text n 0 at in
    let all = take (n + 1) text ++ more in
    let split : all ≡ take n text ++ 10 ∷ more =
    ap (λ x. x ++ more) (line_end-split text n at) ∙ append_assoc (take n text) (10 ∷ []) more in
    let before : take n all ≡ take n text =
    ap (take n) split
    ∙ take_at (take n text) (10 ∷ more) n (length-take-le n text (omega (arith, found.0))) in
    lines-place all n (line_end-then text more n at)
    ∙ ap (λ x. ended_line x ∷ lines (drop (n + 1) all)) before
    ∙ ap (λ x. ended_line (take n text) ∷ lines x) (drop-first text more n at)

-- ---- a line that has come

rest-place : (is_taken : Bool) (place : ℕ) (text more : List ℕ)
    → line_end text ≡ Some place
    → rest_lines is_taken (take (place + 1) text ++ more)
    ≡ piece_lines is_taken (ended_line (take place text)) (lines more)
rest-place false place text more at = lines-first text more place at
rest-place true place text more at =
    ap (λ x. lines (behind_end (take (place + 1) text ++ more) x))
    (line_end-then text more place at)
    ∙ ap lines (drop-first text more place at)

-- ---- a line that is too long

-- octets behind a place of the second of two texts
behind_both : (text more : List ℕ) (p : ℕ)
    → drop (length text + p + 1) (text ++ more) ≡ drop (p + 1) more
behind_both text more p =
    let e : length text + p + 1 ≡ length text + (p + 1) = omega arith in
    ap (λ k. drop k (text ++ more)) e ∙ sym (drop-drop (p + 1) (length text) (text ++ more))
    ∙ ap (drop (p + 1)) (drop_at text more (length text) refl)

-- the octets in front of a line end, or all
abbrev front_of : List ℕ → Option ℕ → List ℕ
front_of text None = text
front_of text (Some n) = take n text

-- its front and what follows in the line, and the lines behind
lines-long : (text more : List ℕ)
    → line_end text ≡ None
    → 140000 < length text
    → lines (text ++ more) ≡ (text ++ front_of more (line_end more)) ∷ rest_lines true more
lines-long text more none long = by_end (line_end more) refl
  where
    by_end : (o : Option ℕ) → line_end more ≡ o
        → lines (text ++ more) ≡ (text ++ front_of more o) ∷ lines (behind_end more o)
    by_end None at =
        lines-nowhere (text ++ more) (line_end-nowhere text more none at)
        (omega (arith, length-append text more))
    by_end (Some p) at =
        let all = text ++ more in
        let found = position-Some (λ b. b == 10) more p 0 at in
        let within : length text + p ≤ length all = omega (arith, length-append text more, found.0)
        in
        let front : take (length text + p) all
        ≡ text ++ take p more = take-append-add text more p in
        let long_line : 140000 < length (text ++ take p more) =
        omega (arith, length-append text (take p more)) in
        let long_piece : nat_lt 140000 (length (text ++ take p more)) ≡ true =
        grind (arith, nat_tests) in
        let kept : ended_line (text ++ take p more) ≡ text ++ take p more = rw long_piece refl in
        lines-place all (length text + p) (line_end-behind text more p none at)
        ∙ ap (λ x. ended_line x ∷ lines (drop (length text + p + 1) all)) front
        ∙ ap (λ x. x ∷ lines (drop (length text + p + 1) all)) kept
        ∙ ap (λ x. (text ++ take p more) ∷ lines x) (behind_both text more p)

-- what follows in it, and the lines behind
rest-long : (is_taken : Bool) (text more : List ℕ)
    → line_end text ≡ None
    → 140000 < length text
    → rest_lines is_taken (text ++ more)
    ≡ piece_lines is_taken (text ++ front_of more (line_end more)) (rest_lines true more)
rest-long false text more none long = lines-long text more none long
rest-long true text more none long = by_end (line_end more) refl
  where
    by_end : (o : Option ℕ) → line_end more ≡ o
        → rest_lines true (text ++ more) ≡ lines (behind_end more o)
    by_end None at = ap (λ x. lines (behind_end (text ++ more) x))
        (line_end-nowhere text more none at)
    by_end (Some p) at =
        ap (λ x. lines (behind_end (text ++ more) x)) (line_end-behind text more p none at)
        ∙ ap lines (behind_both text more p)

-- ---- the last line

rest-last : (is_taken : Bool) (text : List ℕ)
    → line_end text ≡ None
    → 0 < length text
    → rest_lines is_taken text ≡ piece_lines is_taken text []
rest-last false text none some = lines-nowhere text none some
rest-last true text none some = ap (λ x. lines (behind_end text x)) none

pub rest-nothing : (is_taken : Bool) → rest_lines is_taken [] ≡ []
rest-nothing false = refl
rest-nothing true = refl

-- ---- a piece

-- the lines from here on are that line and those behind it, where the line has come, or is too
-- long: then more of it may follow
pub rest-piece : (is_taken : Bool) (place : Option ℕ) (text line : List ℕ) (len : ℕ) (more : List ℕ)
    → line_end text ≡ place
    → IsPiece place text line len
    → (is_none place ≡ true → 140000 < len)
    → (rest : List ℕ) × IsBehind line rest
    × (rest_lines is_taken (take len text ++ more)
    ≡ piece_lines is_taken (line ++ rest) (rest_lines (is_none place) more))
rest-piece is_taken (Some n) text line len more at piece long = (
  [],
  inl refl,
  ap (λ k. rest_lines is_taken (take k text ++ more)) piece.1
      ∙ rest-place is_taken n text more at
      ∙ ap (λ l. piece_lines is_taken l (lines more)) (sym piece.0 ∙ sym (append-nil line)),
)
rest-piece is_taken None text line len more at piece long =
    let big : 140000 < length text = subst (λ k. 140000 < k) piece.1 (long refl) in (
      front_of more (line_end more),
      inr (subst (λ l. 140000 < length l) (sym piece.0) big),
      ap (λ x. rest_lines is_taken (x ++ more)) (take_all len text (omega (arith, piece.1)))
          ∙ rest-long is_taken text more at big
          ∙ ap (λ l. piece_lines is_taken (l ++ front_of more (line_end more))
          (rest_lines true more)) (sym piece.0),
    )

-- the same of the last piece, behind which nothing is
pub last-piece : (is_taken : Bool) (place : Option ℕ) (text line : List ℕ) (len : ℕ)
    → line_end text ≡ place
    → 0 < length text
    → IsPiece place text line len
    → rest_lines is_taken (take len text) ≡ piece_lines is_taken line []
last-piece is_taken (Some n) text line len at some piece =
    ap (λ k. rest_lines is_taken (take k text)) piece.1
    ∙ ap (rest_lines is_taken) (sym (append-nil (take (n + 1) text)))
    ∙ rest-place is_taken n text [] at
    ∙ ap (λ l. piece_lines is_taken l []) (sym piece.0)
last-piece is_taken None text line len at some piece =
    ap (rest_lines is_taken) (take_all len text (omega (arith, piece.1)))
    ∙ rest-last is_taken text at some
    ∙ ap (λ l. piece_lines is_taken l []) (sym piece.0)
