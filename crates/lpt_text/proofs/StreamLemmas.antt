-- Front parts of a text, and texts appended one after another.
use Rattle.std.proofs.Common.{◌≡◌, ℕ, ◌+◌, ◌≤◌, List, [], ◌++◌, Option, None, Some, unwrap_or, length, take, drop, min, refl, sym, ◌∙◌, append-nil, ap, subst, arith, take_all, take-add}
use Rattle.std.proofs.Math.Seq.{take-append-add}
use Rattle.std.proofs.lemmas.List.{take-append-le, take_min}
use Rattle.std.proofs.KnownBytes.{Appends-nil, Appends-trans}
use Rattle.std.specs.Io.KnownBytes.{Appends, append_known}
use Rattle.lpt_text.specs.Streams.{AppendsPart}

-- ---- texts appended one after another

-- a text appended after a text is the joined text appended
pub appends_more : (a b c : Option (List ℕ)) (front more : List ℕ)
    → Appends a b front
    → Appends b c more
    → Appends a c (front ++ more)
appends_more = Appends-trans

-- the next octets after a front part make a longer front part
pub take_next : (at n : ℕ) (text : List ℕ)
    → take at text ++ take n (drop at text) ≡ take (at + n) text
take_next at n text = sym (take-add at n text)

-- ---- front parts

-- a front part of the second text, after the whole first, is a front part of the joined
pub part_after : (a b c : Option (List ℕ)) (front more : List ℕ)
    → Appends a b front
    → AppendsPart b c more
    → AppendsPart a c (front ++ more)
part_after a b c front more whole part = (
  length front + part.0,
  subst (Appends a c) (sym (take-append-add front more part.0))
      (Appends-trans a b c front _ whole part.1),
)

-- a front part of a front part of the whole is a front part of the whole
pub part_of_front : (a b : Option (List ℕ)) (front more : List ℕ)
    → AppendsPart a b front
    → AppendsPart a b (front ++ more)
part_of_front a b front more part =
    let within : min part.0 (length front) ≤ length front = omega arith in
    let shorter : take (min part.0 (length front)) (front ++ more) ≡ take part.0 front
    = rw take-append-le (take_min part.0 front) in
    (min part.0 (length front), subst (Appends a b) (sym shorter) part.1)

-- nothing appended is a front part of anything
pub part_of_nothing : (a b : Option (List ℕ)) (text : List ℕ)
    → Appends a b []
    → AppendsPart a b text
part_of_nothing a b text nothing = (0, nothing)

-- a text appended is a front part of itself
pub part_whole : (a b : Option (List ℕ)) (text : List ℕ)
    → Appends a b text
    → AppendsPart a b text
part_whole a b text all =
    let whole : take (length text) text ≡ text = take_all (length text) text (omega arith) in
    (length text, subst (Appends a b) (sym whole) all)

-- nothing done is a front part of anything
pub part_unchanged : (a : Option (List ℕ)) (text : List ℕ) → AppendsPart a a text
part_unchanged a text = part_of_nothing a a text (Appends-nil a)

-- ---- what is passed on

-- known octets with nothing kept back behind them
pub nothing_behind : (known : Option (List ℕ)) (kept : List ℕ) → kept ≡ [] → known
    ≡ append_known known kept
nothing_behind None kept none = refl
nothing_behind (Some xs) kept none = ap Some (sym (ap (λ ys. xs ++ ys) none ∙ append-nil xs))

-- ---- counts

-- a count other than 0 was given
pub some_count : (given : Option ℕ) (n : ℕ)
    → n ≡ unwrap_or given 0
    → (n ≡ 0 → ⊥)
    → given ≡ Some n
some_count None n is some = absurd (some is)
some_count (Some m) n is some = ap Some (sym is)
