use Rattle.std.proofs.Common.{subst, Bool, Option}
use Rattle.lpt_layout.specs.Parts.{piece}
use Rattle.lpt_layout_each.specs.Eaches.{course_by, gather, gave_before}
use Rattle.lpt_layout_each.specs.Helds.{Follows}
use Rattle.lpt_layout_each.specs.News.{News}
use Rattle.lpt_layout_each.proofs.AloneLemmas.{kept-apart}
use Rattle.lpt_layout_each.proofs.course.CourseAs.go_on.Goals as goal

pub returns : goal.returns
returns c = λ k h.
    let q = piece c.args.part.now in
    let g = gather c.args.reading.now c.args.any c.args.again k.held q in
    let apart = kept-apart k c.args.self.now c.requires.apart h in
    let took = c.in_ok-news.ensures k.held apart.0 in
    let now = c.note.new.self in
    record {
      follows = subst (λ (s : Bool).
          Follows (course_by k.run s (gave_before k q.number) g.0 g.1) now)
          (c.staleness-stale.ensures k apart.0 h.stale)
          (subst (λ (s : Bool). Follows (course_by k.run c.staleness-stale.result s g.0 g.1) now)
          (c.since-gave.ensures k h.gave)
          (subst (λ (o : Option News).
          Follows (course_by k.run c.staleness-stale.result c.since-gave.result g.0 o) now)
          took.tells (c.note.ensures g.0 k.run took.holds
          apart.1
          c.requires.apart)));
      tells = took.tells;
    }
