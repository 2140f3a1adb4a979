-- One sender is closed after another, until none is open.
use Rattle.std.proofs.Common.{ap, sym, subst, ◌∙◌}
use Rattle.lpt_ledger.specs.Marks.{Marks, all_closed}
use Rattle.lpt_node.specs.NodeInside.{OpenMessages, AreKept}
use Rattle.std.specs.FinMap as map
use Rattle.lpt_node.proofs.RestartLemmas.{all_closed-one, all_closed-none}
use Rattle.lpt_node.proofs.SenderLemmas.{kept-closed}
use Rattle.lpt_node.proofs.restart.close_open.Goals as goal

pub loop-name-preserved : goal.loop-name-preserved
loop-name-preserved c =
    let kept = c.loop-name.invariant.0 in
    let name = c.in-Some.name in (
      subst (λ (o : OpenMessages). AreKept c.close.new.self o.messages) (sym c.in-Some.ensures.rest)
          (subst (λ (m : Marks). AreKept m (map.remove c.loop-name.outgoing.messages name)) (sym c.in-Ok.ensures.ok)
          (kept-closed c.loop-name.senders c.loop-name.outgoing.messages name kept)),
      ap (λ (m : Marks). all_closed m) c.in-Ok.ensures.ok
          ∙ all_closed-one c.loop-name.senders name c.closes_each.ensures.marks
          (sym (kept name) ∙ c.in-Some.ensures.had)
          ∙ c.loop-name.invariant.1,
      ap (λ (o : OpenMessages). o.p) c.in-Some.ensures.rest ∙ c.loop-name.invariant.2,
    )

pub returns-clause-closed : goal.returns-clause-closed
returns-clause-closed c =
    all_closed-none c.loop-name.senders c.loop-name.outgoing.messages
    c.closes_each.ensures.marks
    c.loop-name.invariant.0
    c.in_default.ensures.empty
    ∙ c.loop-name.invariant.1
