use Rattle.std.proofs.Common.{refl}
use Rattle.lpt_layout_each.proofs.AloneLemmas.{fresh-kept}
use Rattle.lpt_layout_each.proofs.course.CourseAs.behind.Goals as goal

pub returns : goal.returns
returns c = λ l h.
    let held = c.behind.ensures l h in
    record {
      last = held.last;
      new = held.new;
      stale = refl;
      gave = refl;
      kept = fresh-kept l c.none.result c.none.ensures;
    }
