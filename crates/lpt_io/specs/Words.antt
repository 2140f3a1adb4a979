-- How things are called.
use Rattle.std.specs.Prelude.{ℕ, List, codes, ◌==◌, if◌then◌else◌}

-- what so many octets are called
abbrev pub octets_called : ℕ → List ℕ
octets_called count = if count == 1 then codes "octet" else codes "octets"
