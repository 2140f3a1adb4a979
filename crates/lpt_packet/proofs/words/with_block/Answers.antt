-- Word follows word.
use Rattle.std.proofs.Common.{◌∙◌, ap, sym, ◌+◌, ◌/◌, length, drop, arith}
use Rattle.lpt_packet.specs.Checksums.{octets_in}
use Rattle.lpt_packet.specs.Words.{words_in}
use Rattle.lpt_packet.proofs.WordLemmas.{eights_in, eights_all, eights_in-next, eights_in-end}
use Rattle.lpt_packet.proofs.words.with_block.Goals as goal

pub loop-eight-init : goal.loop-eight-init
loop-eight-init c =
    let r = words_in 0 c.args.first.now in
    let block = c.args.block.now in
    ap (eights_in r) c.as_chunks.ensures.front
    ∙ eights_all (length block / 8) r block (omega arith)

pub loop-eight-preserved : goal.loop-eight-preserved
loop-eight-preserved c =
    let eights = c.as_chunks.result.0.now in
    let r = words_in 0 c.loop-eight.words in
    let rest = drop (c.loop-eight.eight-index + 1) eights in
    ap (λ s. eights_in s rest) (c.with_word-words.ensures ∙ ap (octets_in r) c.word_of.ensures)
    ∙ eights_in-next r eights c.loop-eight.eight-index c.loop-eight-test.true
    ∙ c.loop-eight.invariant

pub returns : goal.returns
returns c =
    sym (eights_in-end (words_in 0 c.loop-eight.words) c.as_chunks.result.0.now
    c.loop-eight.eight-index c.loop-eight-test.false)
    ∙ c.loop-eight.invariant
