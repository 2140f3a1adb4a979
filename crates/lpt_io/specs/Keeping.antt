-- What a source keeps of what it gives.
use Rattle.std.specs.Prelude.{◌≡◌, ◌-◌, ℕ, List, length, take}
use Rattle.lpt_io.specs.declared.keeping.Keeping.{Keeping}

abbrev pub source_of : {S : Type 0} → Keeping S → S
source_of s = s.source

-- the octets that are kept
abbrev pub kept_of : {S : Type 0} → Keeping S → List ℕ
kept_of s = s.kept.items

-- how many more are to be kept
abbrev pub room_of : {S : Type 0} → Keeping S → ℕ
room_of s = s.room

-- of all that was read of it, the first so many octets are kept; as many as are missing are to be
abbrev pub KeepsFirst : {S : Type 0} → Keeping S → (most : ℕ) → (read : List ℕ) → Type 0
KeepsFirst s most read = (kept_of s ≡ take most read) × (room_of s ≡ most - length read)
