-- The items of a list.
use Rattle.std.specs.Prelude.{ℕ, Bool, List, ◌==◌}
use Rattle.std.specs.List.{slice_split}

abbrev pub is_comma : ℕ → Bool
is_comma b = b == 44

-- the items of a list, which commas part
abbrev pub items_of : List ℕ → List (List ℕ)
items_of list = slice_split is_comma list
