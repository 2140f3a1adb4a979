-- Numbers as octets, the greatest first.
use Rattle.std.specs.Prelude.{ℕ, ◌+◌, ◌*◌, ◌<◌, Bool, true, false, ◌==◌, ◌&&◌, List, [], ◌∷◌, slice_index}
use Rattle.std.specs.Int.{bytes_high_first}

-- n as w octets, the greatest first
abbrev pub be : ℕ → ℕ → List ℕ
be n w = bytes_high_first w n

-- the 16-bit number at a place
abbrev pub word_at : List ℕ → ℕ → ℕ
word_at b i = 256 * slice_index b i + slice_index b (i + 1)

-- every element is an octet
abbrev pub IsOctets : List ℕ → Type 0
IsOctets b = (i : ℕ) → slice_index b i < 256

-- whether two lists of octets are the same
abbrev pub same_octets : List ℕ → List ℕ → Bool
same_octets [] [] = true
same_octets [] (y ∷ ys) = false
same_octets (x ∷ xs) [] = false
same_octets (x ∷ xs) (y ∷ ys) = (x == y) && same_octets xs ys
