-- What a part makes of those that came in their order, as the code has it.
use Rattle.std.proofs.Common.{◌≡◌, ◌∙◌, ap, sym, refl, ℕ, ◌+◌, ◌<◌, ◌≤◌, nat_le, Bool, true, false, if◌then◌else◌, List, Option, arith}
use Rattle.std.specs.Prelude.{is_some}
use Rattle.lpt_packet.proofs.BoolLemmas.{le_true, true_le}
use Rattle.lpt_packet.proofs.Readings.{eq_true}
use Rattle.lpt_part.specs.Parts.{Piece}
use Rattle.lpt_layout_join.specs.declared.order.Order.{Order}
use Rattle.lpt_layout_join.specs.Came.{Came, message_of}
use Rattle.lpt_layout_join.specs.Orders.{order_after}
use Rattle.lpt_layout_each.specs.declared.run.RunAs.{RunAs}
use Rattle.lpt_layout_each.specs.Eaches.{Goes, Run, more, no_run, run_before, run_by, run_joined, run_turn}
use Rattle.lpt_layout_each.specs.Helds.{IsRun}

not_le : (a b : ℕ) → b < a → nat_le a b ≡ false
not_le a b h = go (nat_le a b) refl where
  go : (c : Bool) → nat_le a b ≡ c → c ≡ false
  go false e = refl
  go true e = let le = true_le a b e in absurd (omega (arith, le, h))

pub before-one : (r : Run) (n : ℕ) → n ≡ 1 → no_run ≡ run_before r n
before-one r n h = sym (ap (λ (b : Bool). if b then no_run else r) (eq_true n 1 h))

module _ (r : Run) (now : ℕ) (q : Piece) (g : RunAs) (h : IsRun (run_before r q.number) g) where
  abbrev with_part : Came
  with_part = more (run_before r q.number).came q

  abbrev after : Order → Order
  after o = order_after o q.number now

  -- a part beyond the next
  pub run-past : g.order.count + 1 < q.number → run_turn r now q ≡ Goes no_run
  unfolding run_turn
  run-past past =
      ap (λ (b : Bool). if b then run_by (after (run_before r q.number).order) with_part
      else Goes no_run)
      (ap (λ (o : Order). nat_le q.number (o.count + 1)) (sym h.order)
      ∙ not_le q.number (g.order.count + 1) past)

  -- the next, or one of them again
  adds : q.number ≤ g.order.count + 1 → run_turn r now q ≡ run_by (after g.order) with_part
  unfolding run_turn
  adds next =
      ap (λ (b : Bool). if b then run_by (after (run_before r q.number).order) with_part
      else Goes no_run)
      (ap (λ (o : Order). nat_le q.number (o.count + 1)) (sym h.order)
      ∙ le_true q.number (g.order.count + 1) next)
      ∙ ap (λ (o : Order). run_by (after o) with_part) (sym h.order)

  pub run-broken : q.number ≤ g.order.count + 1
      → true ≡ is_some with_part.against
      → run_turn r now q ≡ Goes no_run
  run-broken next e =
      adds next
      ∙ ap (λ (b : Bool). if b then Goes no_run
      else run_joined (after g.order) with_part (message_of with_part.parts)) (sym e)

  pub run-joins : (o : Option (List ℕ))
      → q.number ≤ g.order.count + 1
      → false ≡ is_some with_part.against
      → o ≡ message_of with_part.parts
      → run_turn r now q ≡ run_joined (after g.order) with_part o
  run-joins o next e is =
      adds next
      ∙ ap (λ (b : Bool). if b then Goes no_run
      else run_joined (after g.order) with_part (message_of with_part.parts)) (sym e)
      ∙ ap (run_joined (after g.order) with_part) (sym is)
