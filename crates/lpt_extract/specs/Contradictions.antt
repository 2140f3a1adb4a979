-- For which addresses areas gave different octets.
use Rattle.std.specs.Prelude.{ℕ, ◌-◌, ◌==◌, ◌&&◌, ◌||◌, nat_le, not, Bool, false, if◌then◌else◌}
use Rattle.std.specs.Prelude.{List, [], ◌∷◌, get_or}
use Rattle.std.specs.List.{flat_map}
use Rattle.lpt_memory.specs.declared.request.Area.{Area}
use Rattle.lpt_extract.specs.Gaps.{has}

-- the octets that areas gave for an address, in their order
abbrev pub octets_for : ℕ → List Area → List ℕ
octets_for n areas =
    flat_map (λ (a : Area). if has a n then get_or a.octets (n - a.address) 0 ∷ [] else []) areas

-- whether they aren't all the same: one differs from the one before it
abbrev pub differ : List ℕ → Bool
differ [] = false
differ (x ∷ []) = false
differ (x ∷ (y ∷ rest)) = not (x == y) || differ (y ∷ rest)

-- whether areas gave different octets for an address, if that isn't in front of an image
abbrev pub is_contradicted : (from : ℕ) → List Area → ℕ → Bool
is_contradicted from areas n = nat_le from n && differ (octets_for n areas)
