-- The names of one run are closed after those of the other.
use Rattle.std.proofs.Common.{◌≡◌, ◌∙◌, ap, sym, subst, ℕ, ◌+◌, ◌≤◌, List, ◌∷◌, length, arith}
use Rattle.lpt_ledger.specs.declared.run.NameRun.{NameRun}
use Rattle.lpt_node.specs.Restarts.{NoneOpen}
use Rattle.lpt_state.specs.Verdicts.{run_at, runs_in}
use Rattle.lpt_state.proofs.LawLemmas.{none_open}
use Rattle.lpt_state.proofs.RunLemmas.{next_run, no_run, shut_end, shut_step}
use Rattle.lpt_state.proofs.reading.ledger_closed.Goals as goal

pub loop-six-preserved : goal.loop-six-preserved
loop-six-preserved c =
    let left : List ℕ = c.loop-six.left.now in
    let rest : List ℕ = c.in-Some.rest.now in
    let this : NameRun = c.run_from.result in
    let long : 6 ≤ length left = omega (arith, c.in-Some.ensures.cases.2) in
    let next : runs_in left ≡ this ∷ runs_in rest =
    next_run left this long (c.run_from.ensures ∙ ap run_at c.in-Some.ensures.cases.0)
    ∙ ap (λ (b : List ℕ). this ∷ runs_in b) (sym c.in-Some.ensures.cases.1) in
    shut_step c.loop-six.ledger c.shut_run.new.self left this rest next c.in_ok-shut_run.ensures.ok
    ∙ c.loop-six.invariant

pub returns-clause-names : goal.returns-clause-names
returns-clause-names c =
    shut_end c.loop-six.ledger c.loop-six.left.now
    (no_run c.loop-six.left.now c.in_default.ensures.cases)
    ∙ c.loop-six.invariant

pub returns-clause-none_open : goal.returns-clause-none_open
returns-clause-none_open c =
    subst NoneOpen
    (sym (shut_end c.loop-six.ledger c.loop-six.left.now
    (no_run c.loop-six.left.now c.in_default.ensures.cases)
    ∙ c.loop-six.invariant))
    (none_open (runs_in c.args.octets.now))
