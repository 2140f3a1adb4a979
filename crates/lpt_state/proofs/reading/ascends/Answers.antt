-- One run is looked at after the other.
use Rattle.std.proofs.Common.{◌≡◌, ◌∙◌, ap, sym, rules, ℕ, ◌+◌, ◌≤◌, ◌&&◌, true, false, List, ◌∷◌, length, arith}
use Rattle.lpt_ledger.specs.declared.run.NameRun.{NameRun}
use Rattle.lpt_ledger.specs.Runs.{has_name, stands}
use Rattle.lpt_state.specs.Verdicts.{run_at, runs_in}
use Rattle.lpt_state.proofs.RunLemmas.{ascend_end, ascend_step, next_run, no_run}
use Rattle.lpt_state.proofs.reading.ascends.Goals as goal

pub loop-six-preserved : goal.loop-six-preserved
loop-six-preserved c =
    let left : List ℕ = c.loop-six.left.now in
    let rest : List ℕ = c.in-Some.rest.now in
    let this : NameRun = c.run_from-this.result in
    let long : 6 ≤ length left = omega (arith, c.in-Some.ensures.cases.2) in
    let next : runs_in left ≡ this ∷ runs_in rest =
    next_run left this long (c.run_from-this.ensures ∙ ap run_at c.in-Some.ensures.cases.0)
    ∙ ap (λ (b : List ℕ). this ∷ runs_in b) (sym c.in-Some.ensures.cases.1) in
    let turned : c.goes_on.result ≡ true = search rules in
    let goes : (has_name this && stands c.loop-six.before this) ≡ true = sym c.goes_on.ensures
    ∙ turned in
    sym (ascend_step c.loop-six.before left this rest true next goes) ∙ c.loop-six.invariant

pub returns-then-not-goes_on : goal.returns-then-not-goes_on
returns-then-not-goes_on c =
    let left : List ℕ = c.loop-six.left.now in
    let rest : List ℕ = c.in-Some.rest.now in
    let this : NameRun = c.run_from-this.result in
    let long : 6 ≤ length left = omega (arith, c.in-Some.ensures.cases.2) in
    let next : runs_in left ≡ this ∷ runs_in rest =
    next_run left this long (c.run_from-this.ensures ∙ ap run_at c.in-Some.ensures.cases.0)
    ∙ ap (λ (b : List ℕ). this ∷ runs_in b) (sym c.in-Some.ensures.cases.1) in
    let turned : c.goes_on.result ≡ false = search rules in
    let goes : (has_name this && stands c.loop-six.before this) ≡ false = sym c.goes_on.ensures
    ∙ turned in
    sym (ascend_step c.loop-six.before left this rest false next goes) ∙ c.loop-six.invariant

pub returns : goal.returns
returns c =
    sym (ascend_end c.loop-six.before c.loop-six.left.now
    (no_run c.loop-six.left.now c.in_default.ensures.cases))
    ∙ c.loop-six.invariant
