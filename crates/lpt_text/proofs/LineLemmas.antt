-- The first line end of octets that are searched a piece at a time.
use Rattle.std.proofs.Common.{◌≡◌, ℕ, ◌+◌, ◌≤◌, ◌<◌, ◌==◌, List, [], ◌∷◌, ◌++◌, get_or, length-append, length, take, drop, Option, None, Some, Err, ◌-◌, Bool, sym, ap, subst, ◌∙◌, arith, take-append-drop, append_assoc, append-nil}
use Rattle.std.specs.List.{position_or_len}
use Rattle.std.proofs.lemmas.Bool.{eqb-true}
use Rattle.std.proofs.lemmas.List.Quantifiers.{position-Some}
use Rattle.std.proofs.Math.ListN.{get_or-append}
use Rattle.std.proofs.lemmas.Grind.{common_steps}
use Rattle.std.proofs.lemmas.Bool.Decides.{nat_tests}
use Rattle.std.proofs.lemmas.List.{length-take-le, take_rest, take_at, take_more, get_or-take}
use Rattle.std.proofs.lemmas.List.Folds.{prefix_len-append}
use Rattle.std.proofs.lemmas.List.Sums.{prefix_len-le-length, position_or_len_is}
use Rattle.std.proofs.KnownBytes.{Consumes-trans}
use Rattle.std.specs.Io.KnownBytes.{Consumes}
use Rattle.lpt_text.specs.Lines.{octets_held, line_end, Adds, IsCut, Fills, FindsLine}
use Rattle.lpt_text.specs.declared.fault.StreamFault.{StreamFault}
use Rattle.lpt_text.specs.declared.fault.StreamFault.TheVariants as faults
use Rattle.lpt_text.specs.declared.lines.LineBuffer.{LineBuffer}

-- ---- places

-- a line end behind octets without one
pub line_end-behind : (front more : List ℕ) (n : ℕ)
    → line_end front ≡ None
    → line_end more ≡ Some n
    → line_end (front ++ more) ≡ Some (length front + n)
line_end-behind front more n none some =
    grind (arith, common_steps, nat_tests, prefix_len-append, prefix_len-le-length)

-- no line end behind octets without one
pub line_end-nowhere : (front more : List ℕ)
    → line_end front ≡ None
    → line_end more ≡ None
    → line_end (front ++ more) ≡ None
line_end-nowhere front more none some =
    grind (arith, common_steps, nat_tests, prefix_len-append, prefix_len-le-length)

-- the same at a place of the octets
pub line_end-from : (text : List ℕ) (at n : ℕ)
    → at ≤ length text
    → line_end (take at text) ≡ None
    → line_end (drop at text) ≡ Some n
    → line_end text ≡ Some (at + n)
line_end-from text at n within none some =
    subst (λ x. line_end x ≡ Some (at + n)) (take-append-drop at text)
    (subst (λ k. line_end (take at text ++ drop at text)
    ≡ Some (k + n)) (length-take-le at text within)
    (line_end-behind (take at text) (drop at text) n none some))

pub line_end-none : (text : List ℕ) (at : ℕ)
    → line_end (take at text) ≡ None
    → line_end (drop at text) ≡ None
    → line_end text ≡ None
line_end-none text at none some =
    subst (λ x. line_end x ≡ None) (take-append-drop at text)
    (line_end-nowhere (take at text) (drop at text) none some)

-- a search of all from a place on
pub line_end-rest : (got text : List ℕ) (at : ℕ) (found : Option ℕ)
    → got ≡ text
    → found ≡ line_end (take (length got - at) (drop at got))
    → line_end (drop at text) ≡ found
line_end-rest got text at found is h =
    sym (ap (λ x. line_end (drop at x)) is) ∙ sym (ap line_end (take_rest got at)) ∙ sym h

-- what was searched has still no line end once more is held
pub line_end-kept : (got text more new : List ℕ)
    → got ≡ text
    → new ≡ text ++ more
    → line_end text ≡ None
    → (length got ≤ length new) × (line_end (take (length got) new) ≡ None)
line_end-kept got text more new is grown none =
    let front : take (length got) new ≡ text =
    ap (λ x. take (length got) x) grown ∙ take_at text more (length got) (sym (ap length is)) in (
      grind (arith, common_steps, is, grown),
      ap line_end front ∙ none,
    )

-- ---- octets that were read

-- what is read after what was read
pub adds-more : (old mid new : LineBuffer) (a b c : Option (List ℕ)) (read more over : List ℕ)
    → Adds old mid a b read []
    → Adds mid new b c more over
    → Adds old new a c (read ++ more) over
adds-more old mid new a b c read more over p q = record {
  consumed = subst (Consumes a c) (sym (append_assoc read more over))
      (Consumes-trans a b c read (more ++ over)
      (subst (Consumes a b) (append-nil read) p.consumed) q.consumed);
  behind = q.behind ∙ ap (λ x. x ++ more) p.behind ∙ append_assoc (octets_held old) read more;
  counted = grind (arith, common_steps, p.counted, q.counted);
}

-- a read that failed, or was cut, ends the search
pub fill-fault : (fault : StreamFault) (old mid new : LineBuffer) (a b c : Option (List ℕ))
    (read : List ℕ) (had told failed : Bool)
    → Adds old mid a b read []
    → line_end (octets_held mid) ≡ None
    → length (octets_held mid) ≤ 140000
    → told ≡ had
    → Fills (Err fault) mid new b c told failed
    → FindsLine (Err fault) old new a c had failed
fill-fault faults.Read old mid new a b c read had told failed p none short same q =
    let all : octets_held new ≡ octets_held mid = q.1.behind ∙ append-nil (octets_held mid) in (
      read ++ [],
      q.0,
      adds-more old mid new a b c read [] q.0 p q.1,
      ap line_end all ∙ none,
      subst (λ x. length x ≤ 140000) (sym all) short,
      subst (λ x. IsCut new q.0 x failed) same q.2,
    )
fill-fault faults.Memory old mid new a b c read had told failed p none short same q = (
  read ++ q.0,
  Consumes-trans a b c read q.0
      (subst (Consumes a b) (append-nil read) p.consumed) q.1,
  q.2 ∙ same,
)
fill-fault faults.Write old mid new a b c read had told failed p none short same q = absurd q

-- ---- the line that ends there

-- its octets, in front of its line end
pub line_end-split : (text : List ℕ) (n : ℕ)
    → line_end text ≡ Some n
    → take (n + 1) text ≡ take n text ++ 10 ∷ []
line_end-split text n at =
    let found = position-Some (λ b. b == 10) text n 0 at in
    take_more text n 0 found.0
    ∙ ap (λ b. take n text ++ b ∷ []) (eqb-true (get_or text n 0) 10 found.1)

-- it ends there whatever follows
pub line_end-then : (text more : List ℕ) (n : ℕ)
    → line_end text ≡ Some n
    → line_end (take (n + 1) text ++ more) ≡ Some n
line_end-then text more n at =
    let found = position-Some (λ b. b == 10) text n 0 at in
    let long : length (take (n + 1) text)
    ≡ n + 1 = length-take-le (n + 1) text (grind (arith, found.0)) in
    let same : (k : ℕ) → k < n + 1 → get_or (take (n + 1) text ++ more) k 0 ≡ get_or text k 0 =
    λ k below. get_or-append (take (n + 1) text) more 0 k (omega arith)
    ∙ get_or-take (n + 1) text k 0 below in
    let place : position_or_len (λ b. b == 10) (take (n + 1) text ++ more) ≡ n =
    position_or_len_is (λ b. b == 10) (take (n + 1) text ++ more) n 0
    (omega (arith, length-append (take (n + 1) text) more))
    (λ k below. ap (λ b. b == 10) (same k (omega arith)) ∙ found.2 k below)
    (λ _. ap (λ b. b == 10) (same n (omega arith)) ∙ found.1) in
    let within : n < length (take (n + 1) text ++ more) =
    omega (arith, length-append (take (n + 1) text) more) in
    rw place (grind (arith, nat_tests))
