-- What a source gives from one place up to another.
use Rattle.std.specs.Prelude.{ℕ, Bool, List, take, drop, Option, Some, None}
use Rattle.std.specs.Option.{option_map}
use Rattle.lpt_io.specs.declared.span.SourceSpan.{SourceSpan}

-- so many octets, or all
abbrev pub octets_taken : Option ℕ → List ℕ → List ℕ
octets_taken None b = b
octets_taken (Some n) b = take n b

-- without so many in front, and so many of these, or all
abbrev pub cut_out : (before : ℕ) → (left : Option ℕ) → List ℕ → List ℕ
cut_out before left b = octets_taken left (drop before b)

abbrev pub source_of : {S : Type 0} → SourceSpan S → S
source_of s = s.source

-- how many are still to be passed over
abbrev pub before_of : {S : Type 0} → SourceSpan S → ℕ
before_of s = s.before

-- how many are to be given behind these, if there is a last one
abbrev pub left_of : {S : Type 0} → SourceSpan S → Option ℕ
left_of s = s.left

-- whether a read has failed
abbrev pub has_failed : {S : Type 0} → SourceSpan S → Bool
has_failed s = s.failed

-- the octets that are still to be given, if those of the source are known
abbrev pub span_left : {S : Type 0} → (S → Option (List ℕ)) → SourceSpan S → Option (List ℕ)
span_left remaining s = option_map (cut_out (before_of s) (left_of s)) (remaining (source_of s))
