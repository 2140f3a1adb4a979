-- The register is as good as octets that are added to the first two.
use Rattle.std.proofs.Common.{arith}
use Rattle.lpt_packet.proofs.WordLemmas.{word_added}
use Rattle.lpt_packet.proofs.words.first_word.Goals as goal

pub returns : goal.returns
returns c =
    word_added c.args.register c.word_of.result c.args.octets.now c.ranges.register.fits
    (omega arith) c.word_of.ensures
