-- The words of the kinds of parts.
use Rattle.std.specs.Prelude.{ℕ, List, codes}
use Rattle.lpt_part.specs.declared.kind.Kind.{Kind}
use Rattle.lpt_part.specs.declared.kind.Kind.TheVariants.{First, Middle, Last}

-- the word of a kind
abbrev pub kind_word : Kind → List ℕ
kind_word First = codes "first"
kind_word Middle = codes "middle"
kind_word Last = codes "last"
