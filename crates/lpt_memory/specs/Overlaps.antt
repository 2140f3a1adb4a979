-- Which areas of a load go to a place of the memory.
use Rattle.std.specs.Prelude.{ℕ, ◌+◌, ◌≤◌, ◌<◌, List, length}
use Rattle.std.specs.List.{AllByRecursion}
use Rattle.lpt_memory.specs.declared.request.Area.{Area}

-- the area has an octet for this place
pub record Covers (place : ℕ) (a : Area) : Type 0 where
  pub from : a.address ≤ place
  pub to : place < a.address + length a.octets

-- none of the areas has an octet for this place
abbrev pub NoneCovers : ℕ → List Area → Type 0
NoneCovers place areas = AllByRecursion (λ a. ¬ (Covers place a)) areas
