-- The numbers of a table.
use Rattle.std.specs.Prelude.{ℕ, ℤ, pos, negsuc, ◌&&◌, nat_le, if◌then◌else◌, List, Option, Some, None}
use Rattle.toml.specs.Data.{Data, integer, Members, get_member}

-- a number from the least to the greatest
abbrev pub natural_in : ℕ → ℕ → ℤ → Option ℕ
natural_in least greatest (pos n) = if nat_le least n && nat_le n greatest then Some n else None
natural_in least greatest (negsuc n) = None

-- an integer from the least to the greatest; nothing else is a number
abbrev pub number_in : ℕ → ℕ → Data → Option ℕ
number_in least greatest (integer z) = natural_in least greatest z
number_in least greatest _ = None

-- a number, or if there is none its default, if it has one
abbrev pub number_or : ℕ → ℕ → Option ℕ → Option Data → Option ℕ
number_or least greatest default None = default
number_or least greatest default (Some d) = number_in least greatest d

-- the number at a key, or if the key is absent its default, if it has one
abbrev pub number_at : List ℕ → ℕ → ℕ → Option ℕ → Members → Option ℕ
number_at key least greatest default members =
    number_or least greatest default (get_member key members)
