use Rattle.std.proofs.Common.{◌≡◌, drop}
use Rattle.lpt_packet.specs.Words.{words_in}
use Rattle.lpt_packet.proofs.checksum.register_of.Given as goal

-- what is left to shift in gives the register of all
abbrev pub invariant-loop-word : goal.invariant-loop-word
invariant-loop-word l = words_in l.register (drop l.word-index l.words) ≡ words_in 0 l.fn.words
