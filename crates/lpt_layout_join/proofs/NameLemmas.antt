-- The facts through which proofs speak of names.
use Rattle.std.proofs.Common.{◌≡◌, ◌∙◌, ap, sym, refl, ◌&&◌, Less, Equal, Greater}
use Rattle.std.specs.declared.cmp.Ordering.{Ordering}
use Rattle.std.specs.Cmp.{IsTotalOrder, nat_cmp_total, on_total, then_total, tied_itself, unsigned_tied}
use Rattle.std.specs.Ordering.{eq_by_cmp, is_eq, nat_cmp, ordering_then}
use Rattle.lpt_carried.specs.declared.name.Name.{Name}
use Rattle.lpt_carried.specs.Carried.{same_name}
use Rattle.lpt_layout_join.specs.Names.{name_cmp}

tied_both : (r s : Ordering) → is_eq (ordering_then r s) ≡ (is_eq r && is_eq s)
tied_both Less s = refl
tied_both Equal s = refl
tied_both Greater s = refl

-- those that are the same stand together in their order
pub name_tied : (a b : Name) → eq_by_cmp name_cmp a b ≡ same_name a b
name_tied a b =
    tied_both (nat_cmp a.user b.user) (nat_cmp a.id b.id)
    ∙ (λ i. unsigned_tied a.user b.user i && unsigned_tied a.id b.id i)

-- it is a total order
pub name_cmp_total : IsTotalOrder name_cmp
name_cmp_total =
    then_total (on_total (λ (n : Name). n.user) nat_cmp_total)
    (on_total (λ (n : Name). n.id) nat_cmp_total)

-- which tells of a name and itself that they are equal
pub name_cmp-same : (a b : Name) → a ≡ b → name_cmp a b ≡ Equal
name_cmp-same a b h = ap (name_cmp a) (sym h) ∙ tied_itself name_cmp_total a
