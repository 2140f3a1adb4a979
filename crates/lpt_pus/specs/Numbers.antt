-- Numbers of four octets.
use Rattle.std.specs.Prelude.{ℕ, ◌+◌, ◌*◌, List}
use Rattle.lpt_packet.specs.Numbers.{word_at}

-- the 32-bit number at a place
abbrev pub long_at : List ℕ → ℕ → ℕ
long_at b i = 65536 * word_at b i + word_at b (i + 2)
