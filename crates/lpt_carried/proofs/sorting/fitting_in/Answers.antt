-- What a part shows is what is carried without a size.
use Rattle.std.proofs.Common.{ap, sym, ◌∙◌}
use Rattle.lpt_carried.specs.Carried.{part_carried}
use Rattle.lpt_carried.specs.Skipping.{fitting_by}
use Rattle.lpt_carried.proofs.sorting.fitting_in.Goals as goal

pub returns-in-Ok : goal.returns-in-Ok
unfolding part_carried
returns-in-Ok c = c.size_shown.ensures ∙ ap fitting_by (sym c.in-Ok.ensures.exact)

pub returns-in-Err : goal.returns-in-Err
unfolding part_carried
returns-in-Err c = ap fitting_by (sym c.in-Err.ensures.exact)
