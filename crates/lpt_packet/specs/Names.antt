-- How a transaction is named within a direction: by its source and its identifier.
use Rattle.std.specs.Coded.{Coded, code_by, coded×, coded_ℕ}
use Rattle.std.specs.Prelude.{ℕ, ◌<◌, ◌==◌, ◌&&◌, Bool, refl}
use Rattle.std.specs.declared.cmp.Ordering.{Ordering}
use Rattle.std.specs.Ordering.{nat_cmp, on, then_cmp, is_lt}
use Rattle.lpt_packet.specs.declared.name.Name as declared

-- a source and an identifier
abbrev pub Name : Type 0
Name = declared.Name

-- the name of this source and identifier
abbrev pub named_by : (source id : ℕ) → Name
named_by source id = record { source = source; id = id }

-- whether two names are the same
abbrev pub same_name : Name → Name → Bool
same_name a b = (a.source == b.source) && (a.id == b.id)

-- how names are ordered: by source, and then by identifier
abbrev pub name_cmp : Name → Name → Ordering
name_cmp = then_cmp (on (λ n. n.source) nat_cmp) (on (λ n. n.id) nat_cmp)

-- whether one name stands before another
abbrev pub name_before : Name → Name → Bool
name_before a b = is_lt (name_cmp a b)

-- source and identifier are numbers of 16 bits
pub record IsName (n : Name) : Type 0 where
  pub source_fits : n.source < 65536
  pub id_fits : n.id < 65536

-- the code of a name
abbrev pub coded_name : Coded Name
coded_name =
    code_by (ℕ × ℕ) (coded× coded_ℕ coded_ℕ)
    (λ n. (n.source, n.id)) (λ q. record { source = q.0; id = q.1 }) (λ _. refl)

-- the name that is told if there is none
abbrev pub no_name : Name
no_name = record { source = 0; id = 0 }
