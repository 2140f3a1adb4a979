-- Octets that differ in a burst of bits.
use Rattle.std.specs.Prelude.{◌≡◌, ◌≢◌, ℕ, ◌≤◌, List, [], ◌∷◌, ◌++◌, length}
use Rattle.lpt_packet.specs.Checksums.{bits}

-- the bits of octets, in order
abbrev pub all_bits : List ℕ → List ℕ
all_bits [] = []
all_bits (octet ∷ rest) = bits octet ++ all_bits rest

-- all bits that differ lie within sixteen that follow one another
pub record DifferInBurst (x y : List ℕ) : Type 0 where
  pub front : List ℕ
  pub one : List ℕ
  pub other : List ℕ
  pub back : List ℕ
  pub x_is : all_bits x ≡ front ++ one ++ back
  pub y_is : all_bits y ≡ front ++ other ++ back
  pub differ : one ≢ other
  pub as_long : length one ≡ length other
  pub short : length one ≤ 16
