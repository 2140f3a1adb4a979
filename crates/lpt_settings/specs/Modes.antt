-- The mode of a table.
use Rattle.std.specs.Prelude.{ℕ, nat_eq, if◌then◌else◌, List, codes, Option, Some, None}
use Rattle.std.specs.Cmp.Lexicographic.{pointwise}
use Rattle.toml.specs.Data.{Data, string, Members, get_member}
use Rattle.lpt_part.specs.declared.mode.Mode.{Mode}
use Rattle.lpt_part.specs.declared.mode.Mode.TheVariants.{Any, Strict}

-- the mode of this name
abbrev pub mode_of : List ℕ → Option Mode
mode_of text =
    if pointwise nat_eq text (codes "any") then Some Any
    else if pointwise nat_eq text (codes "strict") then Some Strict
    else None

-- a text names a mode; nothing else does
abbrev pub mode_in : Data → Option Mode
mode_in (string text) = mode_of text
mode_in _ = None

-- the mode that a value names, or if there is none that of any order
abbrev pub mode_or : Option Data → Option Mode
mode_or None = Some Any
mode_or (Some d) = mode_in d

-- the mode at the key `mode`
abbrev pub mode_at : Members → Option Mode
mode_at members = mode_or (get_member (codes "mode") members)
