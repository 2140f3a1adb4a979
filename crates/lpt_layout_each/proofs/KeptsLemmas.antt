-- What is kept of a course, and opened again.
use Rattle.std.proofs.Common.{◌≡◌, ◌∙◌, ◌⊎◌, ap, sym, subst, inl, inr}
use Rattle.std.proofs.Common.{Bool, true, false, Option, Some, None}
use Rattle.std.specs.Prelude.{Box}
use Rattle.std.specs.declared.alloc.Global.{Global}
use Rattle.lpt_layout_join.specs.declared.came.CameAs.{CameAs}
use Rattle.lpt_layout_join.specs.CameInside.{IsBlank}
use Rattle.lpt_layout_join.proofs.CameLemmas.{shows-blank}
use Rattle.lpt_layout_each.specs.declared.course.CourseAs.{CourseAs}
use Rattle.lpt_layout_each.specs.declared.kept.Apart.{Apart}
use Rattle.lpt_layout_each.specs.declared.kept.Inside.{Inside}
use Rattle.lpt_layout_each.specs.declared.kept.Others.{Others}
use Rattle.lpt_layout_each.specs.Eaches.{Course}
use Rattle.lpt_layout_each.specs.Helds.{AreKept, Follows, Keeps}
use Rattle.lpt_layout_each.specs.Kepts.{IsOthers, out_of_boxes, came_or, course_of}

-- a course with other parts that are none, in place of a run of none
abbrev with_run : CourseAs → CameAs → CourseAs
with_run g s = record g { run = record g.run { came = s } }

follows-blank : (c : Course) (g : CourseAs) (s : CameAs)
    → IsBlank g.run.came
    → IsBlank s
    → Follows c g
    → Follows c (with_run g s)
follows-blank c g s a b h = record {
  last = h.last;
  new = h.new;
  stale = h.stale;
  gave = h.gave;
  kept = go g.alone h.kept;
} where
  go : (alone : Bool) → AreKept alone c g → AreKept alone c (with_run g s)
  go true k = k
  go false k = (
    k.0,
    record { order = k.1.order; came = shows-blank c.run.came g.run.came s a b k.1.came },
  )

-- a course that is kept with these
abbrev pub kept_with : CourseAs → Option (Box Others Global) → Inside
kept_with g o = record {
  rest = g.held.rest;
  missing = g.run.order.missing;
  count = g.run.order.count;
  room = g.run.order.room;
  few = g.run.order.few;
  alone = g.alone;
  stale = g.stale;
  gave = g.gave;
  others = o;
}

pub keeps-of : (c : Course) (g : CourseAs) (o : Option (Box Others Global))
    → IsOthers g.held.last g.held.all g.run.came o
    → Follows c g
    → Keeps c (kept_with g o)
keeps-of c g o is h = record { new = h.new; follows = λ s blank. by s blank is.run_is } where
  made : (s came : CameAs) → came ≡ came_or (out_of_boxes o).run s → Follows c (with_run g came)
      → Follows c (course_of (kept_with g o) s)
  made s came e f =
      subst (λ (x : CourseAs). Follows c x) (λ i. record {
        held = record { last = sym is.last_is i; all = sym is.all_is i; rest = g.held.rest };
        run = record { order = g.run.order; came = e i };
        alone = g.alone;
        stale = g.stale;
        gave = g.gave;
      }) f

  by : (s : CameAs)
      → IsBlank s
      → (((out_of_boxes o).run ≡ Some g.run.came) ⊎ (((out_of_boxes o).run ≡ None) × IsBlank g.run.came))
      → Follows c (course_of (kept_with g o) s)
  by s blank (inl e) = made s g.run.came (ap (λ t. came_or t s) (sym e)) h
  by s blank (inr e) =
      made s s (ap (λ t. came_or t s) (sym e.0)) (follows-blank c g s e.1 blank h)

-- it is opened again
pub opens : (c : Course) (k : Inside) (a : Apart) (came s : CameAs)
    → a ≡ out_of_boxes k.others
    → IsBlank s
    → came ≡ came_or a.run s
    → Keeps c k
    → Follows c (record {
      held = record { last = a.last; all = a.all; rest = k.rest };
      run = record {
        order = record { count = k.count; missing = k.missing; room = k.room; few = k.few };
        came = came;
      };
      alone = k.alone;
      stale = k.stale;
      gave = k.gave;
    })
opens c k a came s is blank e h =
    let same : came_or (out_of_boxes k.others).run s ≡ came =
    ap (λ (x : Apart). came_or x.run s) (sym is) ∙ sym e in
    subst (λ (x : CourseAs). Follows c x) (λ i. record {
      held = record { last = (sym is i).last; all = (sym is i).all; rest = k.rest };
      run = record {
        order = record { count = k.count; missing = k.missing; room = k.room; few = k.few };
        came = same i;
      };
      alone = k.alone;
      stale = k.stale;
      gave = k.gave;
    }) (h.follows s blank)
