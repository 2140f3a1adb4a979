-- A first word behind words of zeros stands for what it makes; then block follows block.
use Rattle.std.proofs.Common.{◌∙◌, ap, sym, take, drop, take-append-drop}
use Rattle.lpt_packet.specs.Checksums.{octets_in}
use Rattle.lpt_packet.specs.Words.{words_in}
use Rattle.lpt_packet.proofs.Registers.{octets_in-append}
use Rattle.lpt_packet.proofs.WordLemmas.{word_alone}
use Rattle.lpt_packet.proofs.checksum.by_words.Goals as goal

pub loop-block-init : goal.loop-block-init
loop-block-init c = ap (λ r. octets_in r c.args.octets.now) (word_alone c.args.first)

pub loop-block-preserved : goal.loop-block-preserved
loop-block-preserved c =
    let r = words_in 0 c.loop-block.words in
    let left = c.loop-block.left.now in
    rw (c.with_block-words.ensures, c.in-Some.ensures.cases.0, c.in-Some.ensures.cases.1)
    (sym (octets_in-append r (take 128 left) (drop 128 left))
    ∙ ap (octets_in r) (take-append-drop 128 left)
    ∙ c.loop-block.invariant)
