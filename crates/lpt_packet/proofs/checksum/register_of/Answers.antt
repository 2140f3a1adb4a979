-- The words' octets go into a register of zeros.
use Rattle.std.proofs.Common.{◌∙◌, ap, sym, ◌+◌, drop, arith}
use Rattle.lpt_packet.specs.Checksums.{octets_in}
use Rattle.lpt_packet.specs.Words.{words_in}
use Rattle.lpt_packet.proofs.WordLemmas.{words_in-next, words_in-end}
use Rattle.lpt_packet.proofs.checksum.register_of.Goals as goal

pub loop-word-preserved : goal.loop-word-preserved
loop-word-preserved c =
    let rest = drop (c.loop-word.word-index + 1) c.args.words.now in
    ap (λ r. words_in r rest)
    (c.eight_in-register.ensures ∙ ap (octets_in c.loop-word.register) c.to_le_bytes.ensures)
    ∙ words_in-next c.loop-word.register c.args.words.now c.loop-word.word-index (omega arith)
    ∙ c.loop-word.invariant

pub returns : goal.returns
returns c =
    sym (words_in-end c.loop-word.register c.args.words.now c.loop-word.word-index (omega arith))
    ∙ c.loop-word.invariant
