-- The bits of a word of 64.
use Rattle.std.specs.Prelude.{ℕ, Bool, true, false}

-- the bit that says whether a test passes
abbrev pub bit_for : Bool → ℕ
bit_for true = 1
bit_for false = 0
