-- What is left of the names of which nothing was told at the end yet.
use Rattle.std.specs.Prelude.{◌≡◌, ℕ, Bool, List, Some}
use Rattle.std.specs.List.{flat_map}
use Rattle.std.specs.BTreeMap.{get, keys}
use Rattle.lpt_carried.specs.declared.name.Name.{Name}
use Rattle.lpt_carried.specs.declared.reading.Reading.{Reading}
use Rattle.lpt_layout_each.specs.declared.kept.KeptAs.{KeptAs}
use Rattle.lpt_layout_each.specs.declared.helds.HeldsAs.{HeldsAs}
use Rattle.lpt_layout_each.specs.Eaches.{course_held}
use Rattle.lpt_layout_each.specs.Helds.{IsKept}
use Rattle.lpt_layout_each.specs.News.{Event}
use Rattle.lpt_layout_each.specs.Streams.{left_of}
use Rattle.lpt_layout_join.specs.Names.{name_cmp}

-- of the names at which something is kept, this is kept behind the packets
abbrev pub HoldsYet : Reading → (any : Bool) → List (List ℕ) → HeldsAs → Type 0
HoldsYet r any bs g =
    (n : Name) (k : KeptAs) → get name_cmp g.kept n ≡ Some k → IsKept (course_held r any n bs) k

-- what is left of them, in the order of names
abbrev pub left_yet : Reading → (any : Bool) → List (List ℕ) → HeldsAs → List Event
left_yet r any bs g = flat_map (left_of r any bs) (keys g.kept)
