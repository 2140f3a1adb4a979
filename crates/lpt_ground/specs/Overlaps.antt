-- Places of a memory that share addresses.
use Rattle.std.specs.Prelude.{ℕ, ◌+◌, ◌≤◌, ◌<◌, ◌&&◌, nat_lt, Bool}
use Rattle.lpt_requests.specs.declared.reading.AreaPlace.{AreaPlace}

-- the address behind the last octet of a place
abbrev pub end : AreaPlace → ℕ
end p = p.address + p.len

-- each begins before the other ends
abbrev pub overlap : AreaPlace → AreaPlace → Bool
overlap p q = nat_lt p.address (end q) && nat_lt q.address (end p)

-- an address is one of a place
abbrev pub Has : AreaPlace → (address : ℕ) → Type 0
Has p i = (p.address ≤ i) × (i < end p)

-- an address is one of both
abbrev pub Share : AreaPlace → AreaPlace → Type 0
Share p q = (i : ℕ) × Has p i × Has q i
