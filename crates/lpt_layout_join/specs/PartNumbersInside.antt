-- Which parts came.
use Rattle.std.specs.Prelude.{ℕ, Bool, false, get_or}
use Rattle.lpt_layout_join.specs.declared.part_numbers.PartNumbers.{PartNumbers}

-- whether the part of this number came
abbrev pub has : PartNumbers → ℕ → Bool
has c n = get_or c.marks.items n false

-- whether a last part came
abbrev pub is_ended : PartNumbers → Bool
is_ended c = c.ended
