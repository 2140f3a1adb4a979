-- By what the parts are joined to.
use Rattle.std.proofs.Common.{◌∙◌, ap, sym, ◌+◌, ◌<◌, ◌≤◌, Bool, Some, None, arith}
use Rattle.std.specs.Prelude.{Option, is_some}
use Rattle.lpt_layout.specs.Parts.{piece}
use Rattle.lpt_layout_join.specs.declared.last_part.LastPart.{LastPart}
use Rattle.lpt_layout_join.specs.Came.{last_of}
use Rattle.lpt_layout_join.specs.Orders.{is_in_order, order_after}
use Rattle.lpt_layout_each.specs.Eaches.{Ends, more, no_run, run_before}
use Rattle.lpt_layout_each.proofs.RunLemmas.{run-broken, run-joins, run-past}
use Rattle.lpt_layout_each.proofs.run.RunAs.take.Goals as goal

-- a part beyond the next
pub returns-then-from : goal.returns-then-from
returns-then-from c = λ r h.
    let q = piece c.args.part.now in
    let past : c.begin.new.self.order.count + 1 < c.args.part.now.number =
    omega (arith, c.if-from.true, c.from.ensures, c.from-2.ensures) in (
      no_run,
      c.none.ensures,
      run-past r c.args.missing q c.begin.new.self
          (c.begin.ensures r h) past,
    )

-- it contradicts them
pub returns-then-is_some : goal.returns-then-is_some
returns-then-is_some c = λ r h.
    let q = piece c.args.part.now in
    let b = c.begin.ensures r h in
    let next : c.args.part.now.number ≤ c.begin.new.self.order.count + 1 =
    omega (arith, c.if-from.false, c.from.ensures, c.from-2.ensures) in
    let shows = c.in_ok-take.ensures.came (run_before r q.number).came b.came in (
      no_run,
      c.none-then-is_some.ensures,
      run-broken r c.args.missing q c.begin.new.self b next
          (sym c.if-is_some.true ∙ c.is_some.ensures
          ∙ ap is_some (c.against.ensures (more (run_before r q.number).came q) shows)),
    )

-- parts are missing
pub returns-in-None : goal.returns-in-None
returns-in-None c = λ r h.
    let q = piece c.args.part.now in
    let b = c.begin.ensures r h in
    let next : c.args.part.now.number ≤ c.begin.new.self.order.count + 1 =
    omega (arith, c.if-from.false, c.from.ensures, c.from-2.ensures) in
    let d = more (run_before r q.number).came q in
    let shows = c.in_ok-take.ensures.came (run_before r q.number).came b.came in (
      record { order = order_after c.begin.new.self.order q.number c.args.missing; came = d },
      record { order = c.with-self.ensures; came = shows },
      run-joins r c.args.missing q c.begin.new.self b None next
          (sym c.if-is_some.false ∙ c.is_some.ensures ∙ ap is_some (c.against.ensures d shows))
          (sym c.in-None.is ∙ c.in_ok-message.ensures d shows),
    )

-- the message
pub returns-in-Some : goal.returns-in-Some
returns-in-Some c = λ r h.
    let q = piece c.args.part.now in
    let b = c.begin.ensures r h in
    let next : c.args.part.now.number ≤ c.begin.new.self.order.count + 1 =
    omega (arith, c.if-from.false, c.from.ensures, c.from-2.ensures) in
    let d = more (run_before r q.number).came q in
    let shows = c.in_ok-take.ensures.came (run_before r q.number).came b.came in (
      d,
      shows,
      run-joins r c.args.missing q c.begin.new.self b (Some c.in-Some.message) next
          (sym c.if-is_some.false ∙ c.is_some.ensures ∙ ap is_some (c.against.ensures d shows))
          (sym c.in-Some.is ∙ c.in_ok-message.ensures d shows)
          ∙ ap (λ (t : Bool). Ends d c.in-Some.message t)
          (ap (is_in_order (last_of d.parts)) (sym c.with-self.ensures)
          ∙ ap (λ (l : Option LastPart). is_in_order l c.with-self.result)
          (sym (c.last.ensures d shows)) ∙ sym c.is_whole-sure.ensures),
    )
