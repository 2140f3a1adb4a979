-- The word ends at the first space, or it is all.
use Rattle.std.proofs.Common.{sym, arith}
use Rattle.std.proofs.lemmas.Grind.{common_steps}
use Rattle.lpt_script_words.proofs.Pieces.{words-place, words-nowhere}
use Rattle.lpt_script_words.proofs.words.cut_word.Goals as goal

pub returns-in-Some-clause-words : goal.returns-in-Some-clause-words
returns-in-Some-clause-words c =
    let text = c.args.text.now in
    let cut = words-place text c.in-Some.end (sym c.in-Some.ensures.at) c.requires.begins in
    grind (arith, common_steps, cut)

pub returns-in-None-clause-words : goal.returns-in-None-clause-words
returns-in-None-clause-words c =
    words-nowhere c.args.text.now (sym c.in-None.ensures.at) c.requires.some
