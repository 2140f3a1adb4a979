-- Octets that stand in a buffer of the caller's already, where they are to stand behind a header.
use Rattle.std.specs.Prelude.{ℕ, ◌+◌, nat_le, if◌then◌else◌, List, length, take, drop, replicate}
use Rattle.lpt_c.specs.declared.rest.Rest.{Rest}
use Rattle.lpt_c.specs.declared.rest.Rest.TheVariants.{Given, Standing}

-- so many octets of a buffer from a place on; if it hasn't so many there is no room, and what
-- they are doesn't matter: zeros
abbrev pub standing : (at len : ℕ) → List ℕ → List ℕ
standing at len old =
    if nat_le (at + len) (length old) then take len (drop at old) else replicate len 0

-- the octets behind a header that ends at a place: those that are given, or those that stand there
unfoldable pub rest_in : Rest → (at : ℕ) → List ℕ → List ℕ
rest_in (Given octets) at old = octets.now
rest_in (Standing len) at old = standing at len old

-- how many these are
unfoldable pub rest_len : Rest → ℕ
rest_len (Given octets) = length octets.now
rest_len (Standing len) = len
