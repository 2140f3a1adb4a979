-- The first item ends at the first comma, or it is all.
use Rattle.std.proofs.Common.{sym, arith}
use Rattle.std.proofs.lemmas.Grind.{common_steps}
use Rattle.lpt_text.specs.Items.{is_comma}
use Rattle.lpt_text.proofs.Pieces.{slice_split-nowhere, slice_split-place}
use Rattle.lpt_text.proofs.items.cut_item.Goals as goal

pub returns-in-Some-clause-items : goal.returns-in-Some-clause-items
returns-in-Some-clause-items c =
    let here = sym c.in-Some.ensures.at in
    let cut = slice_split-place is_comma c.args.list.now c.in-Some.place here in
    grind (arith, common_steps, cut)

pub returns-in-None-clause-items : goal.returns-in-None-clause-items
returns-in-None-clause-items c =
    slice_split-nowhere is_comma c.args.list.now (sym c.in-None.ensures.at)
