-- The layouts of a blank text.
use Rattle.std.proofs.Common.{◌≡◌, Some, refl}
use Rattle.toml.specs.Data.{no_members}
use Rattle.lpt_carried.specs.Layouts.{own_layouts}
use Rattle.lpt_layout_file.specs.Tables.{layouts_of}

-- a table with no members means the profile
pub layouts_of-none : layouts_of no_members ≡ Some own_layouts
layouts_of-none = refl
