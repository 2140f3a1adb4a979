use Rattle.lpt_layout_each.proofs.KeptsLemmas.{opens}
use Rattle.lpt_layout_each.proofs.kept.Inside.open.Goals as goal

pub returns : goal.returns
returns c = λ k h.
    opens k c.args.self c.out_of_boxes-last.result c.came_or-came.result c.new-blank.result
    c.out_of_boxes-last.ensures c.new-blank.ensures.blank c.came_or-came.ensures h
