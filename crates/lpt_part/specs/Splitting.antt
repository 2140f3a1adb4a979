-- How a message is split into parts.
use Rattle.std.specs.Prelude.{ℕ, zero, suc, ◌+◌, ◌-◌, ◌*◌, ◌/◌, ◌≤◌, ◌==◌, if◌then◌else◌, List, [], ◌++◌, take, drop}
use Rattle.lpt_part.specs.declared.kind.Kind.{Kind}
use Rattle.lpt_part.specs.declared.kind.Kind.TheVariants.{First, Middle, Last}

-- a part size is 4 to 1024 octets
abbrev pub IsPartSize : ℕ → Type 0
IsPartSize p = (4 ≤ p) × (p ≤ 1024)

-- how many parts of p octets hold len octets
abbrev pub part_count : ℕ → ℕ → ℕ
part_count len p = (len + p - 1) / p

-- the octets of part k: from place (k - 1) * p up to, not including, k * p or the message's end
abbrev pub part_of : List ℕ → ℕ → ℕ → List ℕ
part_of m p k = take p (drop ((k - 1) * p) m)

-- the kind of part k of n
abbrev pub kind_at : ℕ → ℕ → Kind
kind_at k n = if k == 1 then First else if k == n then Last else Middle

-- the octets of parts 1 to k, joined in order
abbrev pub parts_joined : List ℕ → ℕ → ℕ → List ℕ
parts_joined m p zero = []
parts_joined m p (suc k) = parts_joined m p k ++ part_of m p (suc k)
