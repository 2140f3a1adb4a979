-- Fields at the front of octets: each is a value and the octets behind it, or nothing if there
-- are too few.
use Rattle.std.specs.Prelude.{ℕ, zero, suc, List, [], ◌∷◌, length, take, drop, slice_index, Option, Some, None, option_and_then, nat_lt, ◌==◌, if◌then◌else◌}
use Rattle.lpt_packet.specs.Numbers.{word_at}
use Rattle.lpt_pus.specs.Numbers.{long_at}

infixl 10 ◌>>=◌
abbrev pub ◌>>=◌ : {A B : Type 0} → Option A → (A → Option B) → Option B
o >>= f = option_and_then f o

-- one octet
abbrev pub front_octet : List ℕ → Option (ℕ × List ℕ)
front_octet octets =
    if nat_lt (length octets) 1 then None else Some (slice_index octets 0, drop 1 octets)

-- a number of 16 bits
abbrev pub front_word : List ℕ → Option (ℕ × List ℕ)
front_word octets =
    if nat_lt (length octets) 2 then None else Some (word_at octets 0, drop 2 octets)

-- a number of 32 bits
abbrev pub front_long : List ℕ → Option (ℕ × List ℕ)
front_long octets =
    if nat_lt (length octets) 4 then None else Some (long_at octets 0, drop 4 octets)

-- so many octets, at least one
abbrev pub front_octets : ℕ → List ℕ → Option (List ℕ × List ℕ)
front_octets n octets =
    if n == 0 then None
    else if nat_lt (length octets) n then None
    else Some (take n octets, drop n octets)

-- so many areas, and nothing behind them
abbrev pub all_areas : {A : Type 0} → (List ℕ → Option (A × List ℕ)) → ℕ → List ℕ → Option (List A)
all_areas one zero [] = Some []
all_areas one zero (x ∷ rest) = None
all_areas one (suc n) octets =
    one octets >>= λ first. all_areas one n first.1 >>= λ others. Some (first.0 ∷ others)
