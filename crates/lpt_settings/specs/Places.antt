-- Where something stands in a text.
use Rattle.std.specs.Prelude.{ℕ, ◌==◌, ◌+◌, List, count_by, take}

-- how many lines end in the octets
abbrev pub line_ends : List ℕ → ℕ
line_ends octets = count_by (λ octet. octet == 10) octets

-- the line of the octet of this place, counted from 1
abbrev pub line_at : List ℕ → ℕ → ℕ
line_at text place = line_ends (take place text) + 1
