-- The parts that are missing, as a part list.
use Rattle.std.specs.Prelude.{ℕ, ◌+◌, ◌==◌, Bool, true, false, if◌then◌else◌, List, [], ◌∷◌, ◌++◌, length}
use Rattle.std.specs.Fmt.{decimal}

-- a part alone, or the first and the last of a run
abbrev pub item_text : ℕ × ℕ → List ℕ
item_text gap = if gap.0 == gap.1 then decimal gap.0 else decimal gap.0 ++ (45 ∷ decimal gap.1)

-- all parts from a number on
abbrev pub open_text : ℕ → List ℕ
open_text from = decimal from ++ (45 ∷ [])

-- the list with one item more, behind a comma if it isn't the first
abbrev pub with_item : List ℕ → List ℕ → List ℕ
with_item list item = if length list == 0 then item else list ++ (44 ∷ item)

-- the list with an item more for each gap
abbrev pub items_text : List ℕ → List (ℕ × ℕ) → List ℕ
items_text list [] = list
items_text list (gap ∷ gaps) = items_text (with_item list (item_text gap)) gaps

-- the gaps up to a number, and if the last part hasn't come, all parts behind it
abbrev pub list_text : List (ℕ × ℕ) → (last : ℕ) → (ended : Bool) → List ℕ
list_text gaps last true = items_text [] gaps
list_text gaps last false = with_item (items_text [] gaps) (open_text (last + 1))
