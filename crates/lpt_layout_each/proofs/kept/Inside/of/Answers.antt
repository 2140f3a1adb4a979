use Rattle.lpt_layout_each.proofs.KeptsLemmas.{keeps-of}
use Rattle.lpt_layout_each.proofs.kept.Inside.of.Goals as goal

pub returns : goal.returns
returns c = λ k h. keeps-of k c.args.course _ c.in_ok-others.ensures h
