-- The facts through which proofs speak of names: nothing outside of this file takes a name apart to
-- compare it.
use Rattle.std.proofs.Common.{◌≡◌, ◌∙◌, ap, sym, refl, Bool, true, false, ◌&&◌, Less, Equal, Greater, ◌==◌}
use Rattle.std.proofs.lemmas.Bool.{and_parts}
use Rattle.std.specs.declared.cmp.Ordering.{Ordering}
use Rattle.std.specs.Cmp.{IsTotalOrder, nat_cmp_total, on_total, then_total, tied_itself, unsigned_tied}
use Rattle.std.specs.FinMap.{IsAntisymmetric, nat_cmp-IsAntisymmetric}
use Rattle.std.specs.Ordering.{eq_by_cmp, is_eq, is_lt, nat_cmp, ordering_then, ordering_reverse}
use Rattle.lpt_packet.specs.Names.{Name, same_name, name_before, name_cmp}
use Rattle.lpt_packet.proofs.Readings.{eq_true, true_eq}

-- a name is the same as itself
pub same_name-refl : (a : Name) → same_name a a ≡ true
same_name-refl a = λ i. eq_true a.source a.source refl i && eq_true a.id a.id refl i

-- names that are the same are equal
pub same_name-true : (a b : Name) → same_name a b ≡ true → a ≡ b
same_name-true a b h =
    let both = and_parts (a.source == b.source) (a.id == b.id) h in
    λ i. record {
      source = true_eq a.source b.source both.0 i;
      id = true_eq a.id b.id both.1 i;
    }

-- names have a total order
pub name_cmp_total : IsTotalOrder name_cmp
name_cmp_total =
    then_total (on_total (λ (n : Name). n.source) nat_cmp_total)
    (on_total (λ (n : Name). n.id) nat_cmp_total)

-- in which names that are tied are equal
pub name_cmp-IsAntisymmetric : IsAntisymmetric name_cmp
name_cmp-IsAntisymmetric a b h = go (nat_cmp a.source b.source) refl h where
  go : (r : Ordering)
      → nat_cmp a.source b.source ≡ r
      → ordering_then r (nat_cmp a.id b.id) ≡ Equal
      → a ≡ b
  go Less e t = absurd cc
  go Equal e t = λ i. record {
    source = nat_cmp-IsAntisymmetric a.source b.source e i;
    id = nat_cmp-IsAntisymmetric a.id b.id t i;
  }
  go Greater e t = absurd cc

-- which tells of a name and itself that they are equal
pub name_cmp-same : (a b : Name) → a ≡ b → name_cmp a b ≡ Equal
name_cmp-same a b h = ap (name_cmp a) (sym h) ∙ tied_itself name_cmp_total a

tied_both : (r s : Ordering) → is_eq (ordering_then r s) ≡ (is_eq r && is_eq s)
tied_both Less s = refl
tied_both Equal s = refl
tied_both Greater s = refl

-- in which those that are the same stand together
pub name_tied : (a b : Name) → eq_by_cmp name_cmp a b ≡ same_name a b
name_tied a b =
    tied_both (nat_cmp a.source b.source) (nat_cmp a.id b.id)
    ∙ (λ i. unsigned_tied a.source b.source i && unsigned_tied a.id b.id i)

-- ---- before

-- no name is before itself
pub name_before-refl : (a : Name) → name_before a a ≡ false
name_before-refl a = ap is_lt (tied_itself name_cmp_total a)

-- of two names that are compared as less, the second isn't before the first
pub name_before-less : (a b : Name) → name_cmp a b ≡ Less → name_before b a ≡ false
name_before-less a b h =
    ap is_lt (name_cmp_total.antisymm b a ∙ ap ordering_reverse h)

less : (r : Ordering) → is_lt r ≡ true → r ≡ Less
less Less h = refl
less Equal h = absurd cc
less Greater h = absurd cc

-- what isn't before a name isn't before what is before that
pub name_before-chain : (a b q : Name)
    → name_before a b ≡ true
    → name_before q b ≡ false
    → name_before q a ≡ false
name_before-chain a b q h k = go (name_cmp q a) refl where
  go : (r : Ordering) → name_cmp q a ≡ r → is_lt (name_cmp q a) ≡ false
  go Less e =
      let up : name_cmp q b ≡ Less = name_cmp_total.trans q a b e (less (name_cmp a b) h) in
      let t : true ≡ false = sym (ap is_lt up) ∙ k in
      absurd cc
  go Equal e = ap is_lt e
  go Greater e = ap is_lt e

-- of two names one is before the other, or they are the same
pub neither_before : (a b : Name) → name_before a b ≡ false → name_before b a ≡ false → a ≡ b
neither_before a b h k = go (name_cmp a b) refl where
  go : (r : Ordering) → name_cmp a b ≡ r → a ≡ b
  go Less e = let t : true ≡ false = sym (ap is_lt e) ∙ h in absurd cc
  go Equal e = name_cmp-IsAntisymmetric a b e
  go Greater e =
      let up : name_cmp b a ≡ Less = name_cmp_total.antisymm b a ∙ ap ordering_reverse e in
      let t : true ≡ false = sym (ap is_lt up) ∙ k in
      absurd cc
