-- In which order names stand.
use Rattle.std.specs.declared.cmp.Ordering.{Ordering}
use Rattle.std.specs.Ordering.{nat_cmp, on, then_cmp}
use Rattle.lpt_carried.specs.declared.name.Name.{Name}

-- by the user, and then by the identifier
abbrev pub name_cmp : Name → Name → Ordering
name_cmp = then_cmp (on (λ n. n.user) nat_cmp) (on (λ n. n.id) nat_cmp)
