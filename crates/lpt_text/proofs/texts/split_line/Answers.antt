-- The line ends at the first line feed, or it is all.
use Rattle.std.proofs.Common.{sym, arith}
use Rattle.std.proofs.lemmas.Grind.{common_steps}
use Rattle.std.proofs.lemmas.Bool.Decides.{nat_tests}
use Rattle.lpt_text.proofs.Pieces.{lines-place, lines-nowhere}
use Rattle.lpt_text.proofs.texts.split_line.Goals as goal

pub returns-in-Some-clause-lines : goal.returns-in-Some-clause-lines
returns-in-Some-clause-lines c =
    let cut = lines-place c.args.text.now c.in-Some.end (sym c.in-Some.ensures.at) in
    grind (arith, common_steps, cut)

pub returns-in-None-clause-lines : goal.returns-in-None-clause-lines
returns-in-None-clause-lines c =
    lines-nowhere c.args.text.now (sym c.in-None.ensures.at) (grind (arith, nat_tests))
