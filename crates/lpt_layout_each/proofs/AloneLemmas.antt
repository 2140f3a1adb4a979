-- Parts that came alone: in their order, and nothing else of their name.
use Rattle.std.proofs.Common.{◌≡◌, ◌∙◌, ap, sym, subst, refl, ℕ, ◌+◌, ◌≤◌, ◌==◌, ◌&&◌, ◌||◌, nat_le, nat_lt, Bool, true, false, not, if◌then◌else◌, List, Option, Some, None, arith}
use Rattle.std.specs.Prelude.{is_some}
use Rattle.std.specs.Option.{option_map, option_or}
use Rattle.std.proofs.lemmas.Bool.Decides.{nat_tests}
use Rattle.lpt_part.specs.Parts.{Piece}
use Rattle.lpt_carried.specs.declared.reading.Reading.{Reading}
use Rattle.lpt_layout_join.specs.declared.came.CameAs.{CameAs}
use Rattle.lpt_layout_join.specs.declared.ending.MisfitAs.{MisfitAs}
use Rattle.lpt_layout_join.specs.declared.ending.MisfitAs.TheVariants.{Unsure}
use Rattle.lpt_layout_join.specs.declared.order.Order.{Order}
use Rattle.lpt_layout_join.specs.Came.{Came, last_of, message_of, nothing_came}
use Rattle.lpt_layout_join.specs.CameInside.{Shows}
use Rattle.lpt_layout_join.specs.Orders.{is_in_order, no_order, order_after, with_again, with_first, with_next}
use Rattle.lpt_layout_join.specs.Writes.{misfit, unfit}
use Rattle.lpt_layout_each.specs.declared.course.CourseAs.{CourseAs}
use Rattle.lpt_layout_each.specs.declared.news.NewsAs.{NewsAs}
use Rattle.lpt_layout_each.specs.declared.run.RunAs.{RunAs}
use Rattle.lpt_layout_each.specs.Eaches.{Course, GivesUp, Goes, Held, Run, RunTurn, Turn, Waits, after_all, all_turn, alone, held_begun, course_by, end_by, fresh, gather, gave_before, go_on, is_empty, is_old, is_same, more, no_run, run_by, run_joined, run_turn, staleness, step, turn, turn_by, turn_fit, turn_joined}
use Rattle.lpt_layout_each.specs.Helds.{AreKept, Follows, Holds, IsRun, ShowsSome, Steps, broken_course, course_alone, goes_on}
use Rattle.lpt_layout_each.specs.News.{News, Given, Unfit, parts_dropped}
use Rattle.lpt_layout_each.proofs.StepLemmas.{step-ends, step-gives_up, step-goes_on, step-unfit, step-waits}

-- ---- what a part makes of the run

module _ (now : ℕ) (q : Piece) where
  abbrev turn_if : (first : Bool) → Run → RunTurn
  turn_if b r =
      if nat_le q.number ((if b then no_run else r).order.count + 1)
      then run_by (order_after (if b then no_run else r).order q.number now)
      (more (if b then no_run else r).came q)
      else Goes no_run

  turn-if : (r : Run) (b : Bool) → (q.number == 1) ≡ b → run_turn r now q ≡ turn_if b r
  unfolding run_turn
  turn-if r b is = ap (λ (b : Bool). turn_if b r) is

  -- where it goes on, it is added
  pub run-next : (o : Order) (c : Came)
      → goes_on o q.number ≡ true
      → (o.count ≡ 0 → c ≡ nothing_came)
      → run_turn (record { order = o; came = c }) now q
      ≡ run_by (order_after o q.number now) (more c q)
  run-next o c h none = go (q.number == 1) refl h where
    go : (b : Bool)
        → (q.number == 1) ≡ b
        → (if b then o.count == 0 else nat_le q.number (o.count + 1)) ≡ true
        → run_turn (record { order = o; came = c }) now q
        ≡ run_by (order_after o q.number now) (more c q)
    go true is h =
        let one : q.number ≡ 1 = grind (arith, nat_tests, is) in
        let zero : o.count ≡ 0 = grind (arith, nat_tests, h) in
        turn-if (record { order = o; came = c }) true is
        ∙ ap (λ (n : ℕ). if nat_le n 1
        then run_by (order_after no_order n now) (more nothing_came q)
        else Goes no_run) one
        ∙ ap (λ (d : Came). run_by (with_first now) (more d q))
        (sym (none zero))
        ∙ sym (ap (λ (n : ℕ). run_by (order_after o n now) (more c q)) one)
    go false is h =
        turn-if (record { order = o; came = c }) false is
        ∙ ap (λ (t : Bool). if t then run_by (order_after o q.number now) (more c q)
        else Goes no_run) h

-- one that goes on is among those that came
pub ordered-some : (o : Order) (n now : ℕ)
    → 1 ≤ n
    → goes_on o n ≡ true
    → 1 ≤ (order_after o n now).count
ordered-some o n now least h =
    go (n == 1) (nat_lt o.count n) (n == o.count + 1) refl refl refl h where
      go : (a b d : Bool)
          → (n == 1) ≡ a
          → nat_lt o.count n ≡ b
          → (n == o.count + 1) ≡ d
          → (if a then o.count == 0 else nat_le n (o.count + 1)) ≡ true
          → 1 ≤ (if a then with_first now
          else if b then (if d then with_next o n now else no_order) else with_again o).count
      go true b d x y z h = omega arith
      go false true true x y z h = least
      go false true false x y z h =
          let other : n ≡ o.count + 1 → ⊥ = grind (arith, nat_tests, z) in
          let more : o.count + 1 ≤ n = grind (arith, nat_tests, y) in
          let next : n ≤ o.count + 1 = grind (arith, nat_tests, h) in
          absurd (other (omega (arith, more, next)))
      go false false d x y z h =
          let behind : n ≤ o.count = grind (arith, nat_tests, y) in
          omega (arith, least, behind)

-- ---- a step

module _ (r : Reading) (any : Bool) (now : ℕ) (q : Piece) (l : Option Came) (o : Order) (c : Came)
    (h : goes_on o q.number ≡ true) (new : is_old l q ≡ false)
    (none : o.count ≡ 0 → c ≡ nothing_came) where
  abbrev first : Course
  first = course_alone l o c

  abbrev with_part : Came
  with_part = more c q

  abbrev order : Order
  order = order_after o q.number now

  -- by what it makes of these it is what it makes of what is kept
  pub alone-steps : (k : Course) (x : CourseAs × Option NewsAs) (s : Course × Option News)
      → k ≡ first
      → step r any now first q ≡ s
      → Steps x s
      → Steps x (step r any now k q)
  alone-steps k x s is e made =
      subst (λ (d : Course). Steps x (step r any now d q)) (sym is)
      (subst (λ (t : Course × Option News). Steps x t) (sym e) made)

  not_stale : staleness first q.number ≡ false
  not_stale = go (q.number == 1) h where
    go : (b : Bool)
        → (if b then o.count == 0 else nat_le q.number (o.count + 1)) ≡ true
        → (if b then not (is_empty c) else false) ≡ false
    go true h =
        let zero : o.count ≡ 0 = grind (arith, nat_tests, h) in
        ap (λ (d : Came). not (is_empty d)) (none zero)
    go false h = refl

  not_given : gave_before first q.number ≡ false
  not_given = go (q.number == 1) where
    go : (b : Bool) → (if b then false else false) ≡ false
    go true = refl
    go false = refl

  -- all parts wait as the new ones do
  all_wait : (m : Option Came) (d : Came) (t : Turn)
      → t ≡ Waits d
      → after_all m d (option_map (λ _. t) m) ≡ (held_begun m d, None)
  all_wait None d t e = refl
  all_wait (Some x) d t e = ap (λ (u : Turn). after_all (Some x) d (Some u)) e

  both : (again : Bool) (m : Option Came)
      → all_turn r any again (option_map (λ _. c) m) q ≡ option_map (λ _. turn r any again c q) m
  both again None = refl
  both again (Some x) = refl

  gather-waits : (again : Bool) (d : Came)
      → turn r any again c q ≡ Waits d
      → gather r any again (held_begun l c) q ≡ (held_begun l d, None)
  gather-waits again d e =
      sym (step-waits r any again (held_begun l c) q d new e)
      ∙ ap (λ (u : Option Turn). after_all l d u) (both again l)
      ∙ all_wait l d (turn r any again c q) e

  turns : (again : Bool) → turn r any again c q ≡ turn_by r any again q with_part
  unfolding turn
  turns again = refl

  -- with this run, and this made of the others
  goes : (again : Bool) (run : Run) (g : Held × Option News)
      → gather r any again (held_begun l c) q ≡ g
      → go_on r any again (record first { run = run }) q
      ≡ (course_by run false false g.0 g.1, g.1)
  goes again run g is =
      ap (λ (x : Held × Option News). (
        course_by run (staleness first q.number)
            (gave_before first q.number) x.0 x.1,
        x.1,
      )) is
      ∙ ap (λ (s : Bool). (course_by run s (gave_before first q.number) g.0 g.1, g.1)) not_stale
      ∙ ap (λ (s : Bool). (course_by run false s g.0 g.1, g.1)) not_given

  joined-run : is_some with_part.against ≡ false
      → (m : Option (List ℕ))
      → message_of with_part.parts ≡ m
      → run_turn first.run now q ≡ run_joined order with_part m
  joined-run agrees m is =
      run-next now q o c h none
      ∙ ap (λ (b : Bool). if b then Goes no_run
      else run_joined order with_part (message_of with_part.parts)) agrees
      ∙ ap (run_joined order with_part) is

  joined-turn : (again : Bool) (m : Option (List ℕ))
      → is_some with_part.against ≡ false
      → message_of with_part.parts ≡ m
      → turn r any again c q ≡ turn_joined r any again q with_part m
  joined-turn again m agrees is =
      turns again
      ∙ ap (λ (b : Bool). if b then GivesUp (parts_dropped with_part) (alone q)
      else turn_joined r any again q with_part (message_of with_part.parts)) agrees
      ∙ ap (turn_joined r any again q with_part) is

  -- it contradicts them
  pub alone-broken : is_some with_part.against ≡ true
      → step r any now first q
      ≡ (broken_course (held_begun l (alone q)), Some (parts_dropped with_part))
  alone-broken against =
      sym (step-goes_on r any now first q no_run
      (run-next now q o c h none
      ∙ ap (λ (b : Bool). if b then Goes no_run
      else run_joined order with_part (message_of with_part.parts)) against))
      ∙ goes true no_run (held_begun l (alone q), Some (parts_dropped with_part))
      (sym (step-gives_up r any true (held_begun l c) q (parts_dropped with_part) (alone q) new
      (turns true
      ∙ ap (λ (b : Bool). if b then GivesUp (parts_dropped with_part) (alone q)
      else turn_joined r any true q with_part (message_of with_part.parts)) against)))

  -- parts are missing
  pub alone-waits : is_some with_part.against ≡ false
      → message_of with_part.parts ≡ None
      → step r any now first q ≡ (course_alone l order with_part, None)
  alone-waits agrees missing =
      let run : Run = record { order = order; came = with_part } in
      sym (step-goes_on r any now first q run (joined-run agrees None missing))
      ∙ goes true run (held_begun l with_part, None)
      (gather-waits true with_part (joined-turn true None agrees missing))

  -- the message
  pub alone-gives : (m : List ℕ)
      → is_some with_part.against ≡ false
      → message_of with_part.parts ≡ Some m
      → unfit r any (is_in_order (last_of with_part.parts) order) m ≡ None
      → step r any now first q ≡ (fresh (Some with_part), Some (Given m))
  alone-gives m agrees whole fit =
      sym (step-ends r any now first q with_part m (is_in_order (last_of with_part.parts) order)
      (joined-run agrees (Some m) whole) fit)
      ∙ ap (λ (s : Bool). end_by r any (record first { run = no_run }) q with_part m
      (s && is_same l m)) not_given

  -- no message that may be given out
  unfit-any : (sure : Bool) (m : List ℕ) (e : MisfitAs)
      → unfit r any sure m ≡ Some e
      → unfit r any false m ≡ Some e
  unfit-any sure m e h = go any (misfit r m) r.layout.has_checksum sure h where
    go : (any : Bool) (x : Option MisfitAs) (has sure : Bool)
        → (if any then None else option_or x (if has || sure then None else Some Unsure))
        ≡ Some e
        → (if any then None else option_or x (if has || false then None else Some Unsure))
        ≡ Some e
    go true x has sure h = h
    go false (Some x) has sure h = h
    go false None true sure h = h
    go false None false true h = absurd cc
    go false None false false h = h

  pub alone-unfit : (m : List ℕ) (e : MisfitAs)
      → is_some with_part.against ≡ false
      → message_of with_part.parts ≡ Some m
      → unfit r any (is_in_order (last_of with_part.parts) order) m ≡ Some e
      → step r any now first q ≡ (fresh l, Some (Unfit e))
  alone-unfit m e agrees whole misfits =
      let sure = is_in_order (last_of with_part.parts) order in
      sym (step-unfit r any now first q with_part m sure e
      (joined-run agrees (Some m) whole) misfits)
      ∙ goes false no_run (held_begun l nothing_came, Some (Unfit e))
      (sym (step-gives_up r any false (held_begun l c) q (Unfit e) nothing_came new
      (joined-turn false (Some m) agrees whole
      ∙ ap (turn_fit false q with_part m) (unfit-any sure m e misfits))))

-- ---- what is kept

-- nothing came behind a message, or at all
pub fresh-kept : (l : Option Came) (g : RunAs)
    → IsRun no_run g
    → (fresh l ≡ course_alone l g.order nothing_came)
    × (g.order.count ≡ 0 → ◌≡◌ {A = Came} nothing_came nothing_came)
fresh-kept l g none =
    (ap (λ (o : Order). course_alone l o nothing_came) (sym none.order), λ zero. refl)

-- what goes on alone
pub is-alone : (alone next old : Bool)
    → (alone && next && not old) ≡ true
    → (alone ≡ true) × (next ≡ true) × (old ≡ false)
is-alone true true false h = (refl, refl, refl)
is-alone true true true h = absurd cc
is-alone true false old h = absurd cc
is-alone false next old h = absurd cc

pub kept-alone : (c : Course) (g : CourseAs)
    → g.alone ≡ true
    → Follows c g
    → AreKept true c g
kept-alone c g is h = subst (λ (a : Bool). AreKept a c g) is h.kept

-- with these parts and this order it is kept alone
pub alone-next : (k : Course) (g : CourseAs) (o p : Order) (d : Came) (s : CameAs)
    → g.alone ≡ true
    → Follows k g
    → o ≡ p
    → 1 ≤ p.count
    → Shows d s
    → Follows (course_alone k.held.last p d) (record {
      held = record { last = g.held.last; all = g.held.all; rest = s };
      run = record { order = o; came = g.run.came };
      alone = g.alone;
      stale = g.stale;
      gave = g.gave;
    })
alone-next k g o p d s is h order least shows =
    let a = kept-alone k g is h in
    let none : o.count ≡ 0 → d ≡ nothing_came = λ zero.
    absurd (omega (arith, subst (λ (q : Order). 1 ≤ q.count) (sym order) least, zero)) in
    record {
      last = h.last;
      new = shows;
      stale = h.stale ∙ ap (λ (c : Course). c.stale) a.0;
      gave = h.gave ∙ ap (λ (c : Course). c.gave) a.0;
      kept = subst (λ (b : Bool). AreKept b (course_alone k.held.last p d) (record {
        held = record { last = g.held.last; all = g.held.all; rest = s };
        run = record { order = o; came = g.run.came };
        alone = g.alone;
        stale = g.stale;
        gave = g.gave;
      })) (sym is)
          (ap (λ (q : Order). course_alone k.held.last q d) (sym order), none);
    }

-- what isn't kept alone
pub kept-apart : (c : Course) (g : CourseAs)
    → g.alone ≡ false
    → Follows c g
    → Holds c.held g.held × IsRun c.run g.run
kept-apart c g is h =
    let k = subst (λ (a : Bool). AreKept a c g) is h.kept in
    (record { last = h.last; all = k.0; new = h.new }, k.1)

pub follows-apart : (c : Course) (g : CourseAs)
    → g.alone ≡ false
    → Holds c.held g.held
    → IsRun c.run g.run
    → g.stale ≡ c.stale
    → g.gave ≡ c.gave
    → Follows c g
follows-apart c g is held run stale gave = record {
  last = held.last;
  new = held.new;
  stale = stale;
  gave = gave;
  kept = subst (λ (a : Bool). AreKept a c g) (sym is) (held.all, run);
}
