-- The gaps are parted where the area ends and where it begins, and what is within goes.
use Rattle.std.proofs.Common.{◌∙◌, ap, sym, subst, flat_map}
use Rattle.std.specs.List.{filter}
use Rattle.lpt_extract.specs.CoversInside.{cut, gaps_of, is_apart, Ascend}
use Rattle.lpt_extract.proofs.PartLemmas.{ascend-parted, of_all}
use Rattle.lpt_extract.proofs.cover.Cover.cut.Goals as goal

pub returns-clause-gaps : goal.returns-clause-gaps
returns-clause-gaps c = λ up.
    let a = c.args.first in
    let b = c.args.end in
    let gaps = gaps_of c.args.self.now in
    let once = c.in_ok-part.ensures.gaps up in
    let twice = c.in_ok-part-2.ensures.gaps (subst Ascend (sym once) (ascend-parted b gaps up)) in
    c.fill.ensures.gaps
    ∙ ap (filter (is_apart a b)) (twice ∙ ap (flat_map (cut a a)) once)
    ∙ of_all a b c.requires gaps up
