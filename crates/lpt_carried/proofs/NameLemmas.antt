-- The facts through which proofs speak of names.
use Rattle.std.proofs.Common.{◌≡◌, refl, true, ◌&&◌, ◌==◌}
use Rattle.std.proofs.lemmas.Bool.{and_parts}
use Rattle.lpt_packet.proofs.Readings.{eq_true, true_eq}
use Rattle.lpt_carried.specs.declared.name.Name.{Name}
use Rattle.lpt_carried.specs.Carried.{same_name}

-- a name is the same as itself
pub same_name-refl : (a : Name) → same_name a a ≡ true
same_name-refl a = λ i. eq_true a.user a.user refl i && eq_true a.id a.id refl i

-- names that are the same are equal
pub same_name-true : (a b : Name) → same_name a b ≡ true → a ≡ b
same_name-true a b h =
    let both = and_parts (a.user == b.user) (a.id == b.id) h in
    λ i. record {
      user = true_eq a.user b.user both.0 i;
      id = true_eq a.id b.id both.1 i;
    }
