-- The part size by which parts are read.
use Rattle.std.specs.Prelude.{ℕ, ◌&&◌, nat_le, min, max, Bool, true, Option, Some, None}

-- a part size that is known is 1 to 65,535 octets
abbrev pub is_size : Option ℕ → Bool
is_size None = true
is_size (Some p) = nat_le 1 p && nat_le p 65535

-- the part size by which a part of so many octets is read: the one that is known, or else its own
abbrev pub size_for : Option ℕ → ℕ → ℕ
size_for (Some p) len = p
size_for None len = max 1 (min len 65535)
