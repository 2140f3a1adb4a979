-- Nothing gives nothing.
use Rattle.std.proofs.Common.{refl}
use Rattle.lpt_layout_join.specs.Gathered.{parts_gathered}
use Rattle.lpt_layout_join.proofs.gathering.Gathering.new.Goals as goal

pub returns : goal.returns
unfolding parts_gathered
returns c = λ r n. record {
  came_is = c.new.ensures.shows;
  order_is = c.none.ensures;
  sure_is = refl;
  numbers_are = c.new-2.ensures.none;
  ended_is = c.new-2.ensures.ended;
  against_is = refl;
}
