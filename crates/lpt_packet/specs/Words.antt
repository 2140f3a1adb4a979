-- Words of eight octets, the first octet lowest.
use Rattle.std.specs.Prelude.{ℕ, List, [], ◌∷◌}
use Rattle.std.specs.Int.{w64, to_le_bytes}
use Rattle.lpt_packet.specs.Checksums.{octets_in}

-- the register after the octets of a word
abbrev pub word_in : ℕ → ℕ → ℕ
word_in register word = octets_in register (to_le_bytes w64 word)

-- the register after the octets of these words
unfoldable pub words_in : ℕ → List ℕ → ℕ
words_in register [] = register
words_in register (word ∷ rest) = words_in (word_in register word) rest
