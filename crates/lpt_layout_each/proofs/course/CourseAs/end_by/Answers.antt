-- The message wasn't given out yet.
use Rattle.std.proofs.Common.{◌∙◌, ap, sym, subst, Bool, Some}
use Rattle.lpt_layout.specs.Parts.{piece}
use Rattle.lpt_layout_each.specs.declared.held.HeldAs.{HeldAs}
use Rattle.lpt_layout_each.specs.Eaches.{end_by}
use Rattle.lpt_layout_each.specs.Helds.{Holds, Steps}
use Rattle.lpt_layout_each.specs.News.{News}
use Rattle.lpt_layout_each.proofs.AloneLemmas.{kept-apart}
use Rattle.lpt_layout_each.proofs.course.CourseAs.end_by.Goals as goal

pub returns : goal.returns
returns c = λ k d h shows.
    let q = piece c.args.part.now in
    subst (λ (again : Bool). Steps (c.behind-2.result, Some c.overtake-news.result)
    (end_by c.args.reading.now c.args.any k q d c.args.whole.1 again))
    (sym c.if-branch.false ∙ c.in_ok-repeats.ensures k h)
    (record {
      follows = c.behind-2.ensures (Some d) shows;
      tells = ap (λ (w : News). Some w) (c.overtake-news.ensures k d
          (subst (λ (g : HeldAs). Holds k.held g) (sym c.replace-held.ensures.value)
          (kept-apart k c.args.self.now c.requires.apart h).0)
          h.stale shows);
    })
