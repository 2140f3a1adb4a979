-- What a memory should hold, from an address on, and what check reports say of it.
use Rattle.std.specs.Prelude.{◌≡◌, ℕ, ◌==◌, ◌+◌, ◌-◌, ◌<◌, ◌≤◌, ◌&&◌, nat_le, nat_lt, Bool, true, false, if◌then◌else◌, List, length, take, drop, Option, Some, None}
use Rattle.std.specs.List.{list_any}
use Rattle.lpt_packet.specs.Checksums.{checksum}
use Rattle.lpt_compare.specs.declared.checked.Checked.{Checked}

-- ---- an area

-- whether it has an octet of this address
abbrev pub has : Checked → ℕ → Bool
has c n = nat_le c.address n && nat_lt n (c.address + c.len)

-- whether octets from an address on have all of it
abbrev pub is_within : (from : ℕ) → List ℕ → Checked → Bool
is_within from octets c =
    nat_le from c.address && nat_le (c.address + c.len) (from + length octets)

-- those that stand there
abbrev pub octets_at : (from : ℕ) → List ℕ → Checked → List ℕ
octets_at from octets c = take c.len (drop (c.address - from) octets)

-- their checksum, if they have all of it
abbrev pub checksum_at : (from : ℕ) → List ℕ → Checked → Option ℕ
checksum_at from octets c =
    if is_within from octets c then Some (checksum (octets_at from octets c)) else None

-- whether the memory had these octets there, as far as the checksum shows
abbrev pub agrees : (from : ℕ) → List ℕ → Checked → Bool
agrees from octets c =
    is_within from octets c && (checksum (octets_at from octets c) == c.checksum)

-- ---- all

-- whether an area that agrees has an octet of this address
abbrev pub is_shown : (from : ℕ) → List ℕ → List Checked → ℕ → Bool
is_shown from octets checks n = list_any (λ c. has c n && agrees from octets c) checks

-- the addresses from a up to, not including, b are all shown
abbrev pub AreShown : (from : ℕ) → List ℕ → List Checked → (a b : ℕ) → Type 0
AreShown from octets checks a b =
    (n : ℕ) → a ≤ n → n < b → is_shown from octets checks n ≡ true

-- the first address of the octets that isn't shown, if one isn't
abbrev pub IsFirstOpen : (from : ℕ) → List ℕ → List Checked → Option ℕ → Type 0
IsFirstOpen from octets checks None = AreShown from octets checks from (from + length octets)
IsFirstOpen from octets checks (Some n) =
    (from ≤ n) × (n < from + length octets)
    × (is_shown from octets checks n ≡ false) × AreShown from octets checks from n
