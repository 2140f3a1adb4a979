-- Which areas a message of the memory service names.
use Rattle.std.specs.Prelude.{ℕ, ◌==◌, ◌&&◌, ◌||◌, Bool, if◌then◌else◌, List, Option, Some, None}
use Rattle.lpt_packet.specs.declared.direction.Direction.{Direction}
use Rattle.lpt_packet.specs.declared.direction.Direction.TheVariants.{Up, Down}
use Rattle.lpt_memory.specs.Fields.{◌>>=◌}
use Rattle.lpt_memory.specs.Requests.{front_head, front_range}
use Rattle.lpt_script_text.specs.declared.areas.Areas.{Areas}

-- the message subtypes of the memory service whose bodies name areas: loads, dumps and checks up,
-- dump reports and check reports down
abbrev pub names_areas : Direction → ℕ → Bool
names_areas Up subtype = subtype == 2 || subtype == 5 || subtype == 9
names_areas Down subtype = subtype == 6 || subtype == 10

-- whether the body of a message of this direction, service and subtype does
abbrev pub has_areas : Direction → ℕ → ℕ → Bool
has_areas d service subtype = (service == 6) && names_areas d subtype

-- the memory and the number of areas, which isn't 0, and of the first area the start address and
-- the length, which isn't 0: what stands first in each of these bodies
abbrev pub areas_at : List ℕ → Option Areas
areas_at body = do
  head ← front_head body
  first ← front_range head.2
  Some (record { memory = head.0; count = head.1; address = first.0.address; len = first.0.len })

-- the areas that such a message names
unfoldable pub areas_in : Direction → (service subtype : ℕ) → List ℕ → Option Areas
areas_in d service subtype body = if has_areas d service subtype then areas_at body else None
