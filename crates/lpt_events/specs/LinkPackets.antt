-- How long a packet of the link is at most.
use Rattle.std.specs.Prelude.{ℕ, ◌+◌}

-- the octets of the longest packet on a link whose parts have this size: what stands around a part
-- in its packet has no more than 23
abbrev pub longest_on_link : (p : ℕ) → ℕ
longest_on_link p = p + 23
