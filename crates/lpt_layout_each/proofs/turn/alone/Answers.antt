use Rattle.lpt_layout_join.specs.Came.{nothing_came}
use Rattle.lpt_layout_each.proofs.turn.alone.Goals as goal

pub returns : goal.returns
returns c = c.in_ok-take_from.ensures.came nothing_came c.new-came.ensures.shows
