-- The checksum: a 16-bit register of ones, shifted one bit at a time by x^16 + x^12 + x^5 + 1.
use Rattle.std.specs.Prelude.{ℕ, ◌*◌, ◌/◌, ◌%◌, ◌==◌, if◌then◌else◌, List, [], ◌∷◌, bit_xor}

-- Shifts one bit in. The bit that falls out and the bit that comes in say together whether the polynomial is taken.
abbrev pub shift : ℕ → ℕ → ℕ
shift register bit =
    if bit_xor (register / 32768) bit == 1
    then bit_xor (register * 2 % 65536) 0x1021
    else register * 2 % 65536

-- the bits of an octet, the most significant first
abbrev pub bits : ℕ → List ℕ
bits n = n / 128 % 2 ∷ n / 64 % 2 ∷ n / 32 % 2 ∷ n / 16 % 2 ∷ n / 8 % 2 ∷ n / 4 % 2 ∷ n / 2 % 2 ∷ n % 2 ∷ []

-- the register after these bits
unfoldable pub shift_all : ℕ → List ℕ → ℕ
shift_all register [] = register
shift_all register (bit ∷ rest) = shift_all (shift register bit) rest

-- the register after these octets
unfoldable pub octets_in : ℕ → List ℕ → ℕ
octets_in register [] = register
octets_in register (octet ∷ rest) = octets_in (shift_all register (bits octet)) rest

-- the packet error control over these octets
unfoldable pub checksum : List ℕ → ℕ
checksum octets = octets_in 0xffff octets
