use Rattle.std.proofs.Common.{◌≡◌, ◌*◌, take, drop}
use Rattle.hex.specs.Hex.{decode_pairs}
use Rattle.hex.proofs.Pairs.{prepend}
use Rattle.lpt_script_words.proofs.numbers.write_octets.Given as goal

-- the octets so far, and what the rest of the word spells
abbrev pub invariant-pairs : goal.invariant-pairs
invariant-pairs l =
    decode_pairs 0 l.word
    ≡ prepend (take l.i l.octets) (decode_pairs (2 * l.i) (drop (2 * l.i) l.word))
