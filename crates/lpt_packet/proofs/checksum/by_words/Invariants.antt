use Rattle.std.proofs.Common.{◌≡◌, length}
use Rattle.lpt_packet.specs.Checksums.{octets_in}
use Rattle.lpt_packet.specs.Words.{word_in, words_in}
use Rattle.lpt_packet.proofs.checksum.by_words.Given as goal

-- what is left to shift in gives the register after all
abbrev pub invariant-loop-block : goal.invariant-loop-block
invariant-loop-block l =
    octets_in (words_in 0 l.words) l.left ≡ octets_in (word_in 0 l.fn.first) l.fn.octets

abbrev pub decreases-loop-block : goal.decreases-loop-block
decreases-loop-block l = length l.left
