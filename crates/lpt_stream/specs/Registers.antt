-- The registers of the checksum along a stretch of octets.
use Rattle.std.specs.Prelude.{◌≡◌, ℕ, zero, suc, ◌+◌, ◌*◌, ◌<◌, ◌≤◌, List, length, take, get_or}
use Rattle.lpt_packet.specs.Checksums.{bits, shift_all, octets_in}

-- so many registers are kept at most: those of the two longest packets
abbrev pub most_registers : ℕ
most_registers = 131086

-- and so many of those behind zeros: of the longest packet
abbrev pub most_powers : ℕ
most_powers = 65543

-- the register after so many octets of zeros
abbrev pub zeros_in : ℕ → ℕ → ℕ
zeros_in register zero = register
zeros_in register (suc n) = zeros_in (shift_all register (bits 0)) n

-- what so many octets of zeros make of the register 1: of none, of one, and so on
abbrev pub ArePowers : List ℕ → Type 0
ArePowers powers = (n : ℕ) → n < length powers → get_or powers n 0 ≡ zeros_in 1 n

-- from a place on, the registers before the octets: each is the first one after those before it
abbrev pub AreRegisters : (at : ℕ) → (registers octets : List ℕ) → Type 0
AreRegisters at registers octets =
    (n : ℕ) → at + n < length registers
    → (n ≤ length octets)
    × (get_or registers (at + n) 0 ≡ octets_in (get_or registers at 0) (take n octets))

-- so many numbers are the registers before each 64th octet, from the front on, the first one 0
abbrev pub AreMarks : (marked : ℕ) → (room octets : List ℕ) → Type 0
AreMarks marked room octets =
    (n : ℕ) → n < marked
    → (n * 64 ≤ length octets) × (get_or room n 0 ≡ octets_in 0 (take (n * 64) octets))
