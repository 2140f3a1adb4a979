use Rattle.std.proofs.Common.{◌≡◌, drop}
use Rattle.lpt_packet.specs.Checksums.{octets_in}
use Rattle.lpt_packet.specs.Words.{words_in}
use Rattle.lpt_packet.proofs.WordLemmas.{eights_in}
use Rattle.lpt_packet.proofs.words.with_block.Given as goal

-- what is left to shift in gives the register after the block
abbrev pub invariant-loop-eight : goal.invariant-loop-eight
invariant-loop-eight l =
    eights_in (words_in 0 l.words) (drop l.eight-index l.eights)
    ≡ octets_in (words_in 0 l.fn.first) l.fn.block
