-- The two facts through which proofs speak of kinds of parts.
use Rattle.std.proofs.Common.{◌≡◌, true, refl}
use Rattle.lpt_part.specs.declared.kind.Kind.{Kind}
use Rattle.lpt_part.specs.declared.kind.Kind.TheVariants.{First, Middle, Last}
use Rattle.lpt_part.specs.Parts.{same_kind}

-- a kind is the same as itself
pub same_kind-refl : (a : Kind) → same_kind a a ≡ true
same_kind-refl First = refl
same_kind-refl Middle = refl
same_kind-refl Last = refl

-- kinds that are the same are equal
pub same_kind-true : (a b : Kind) → same_kind a b ≡ true → a ≡ b
same_kind-true First First h = refl
same_kind-true First Middle h = absurd cc
same_kind-true First Last h = absurd cc
same_kind-true Middle First h = absurd cc
same_kind-true Middle Middle h = refl
same_kind-true Middle Last h = absurd cc
same_kind-true Last First h = absurd cc
same_kind-true Last Middle h = absurd cc
same_kind-true Last Last h = refl
