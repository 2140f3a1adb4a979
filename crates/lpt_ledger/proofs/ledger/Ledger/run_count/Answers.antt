-- Of runs that ascend no more come than there are names.
use Rattle.std.proofs.Common.{◌≡◌, ◌∙◌, ap, sym, subst, ◌≤◌, ◌^◌, true, List, [], ◌∷◌, ◌++◌, length, append_assoc, length-append, arith}
use Rattle.std.proofs.lemmas.List.Elements.{All-push}
use Rattle.lpt_ledger.specs.declared.run.NameRun.{NameRun}
use Rattle.lpt_ledger.specs.Runs.{ascend, IsRun}
use Rattle.lpt_ledger.proofs.AscendLemmas.{runs_ascend}
use Rattle.lpt_ledger.proofs.FewLemmas.{few_first}
use Rattle.lpt_ledger.proofs.ledger.Ledger.run_count.Goals as goal

pub overflow_add-count : goal.overflow_add-count
overflow_add-count c =
    let seen : List NameRun = c.loop-run.invariant.0 in
    let few : length seen ≤ 2 ^ 32 =
    few_first seen c.loop-run._run-iterator c.loop-run.invariant.3
    (subst (λ (rs : List NameRun). ascend rs ≡ true) c.loop-run.invariant.1
    (runs_ascend c.args.self.now)) in
    omega (arith, few, c.loop-run.invariant.2)

pub loop-run-preserved : goal.loop-run-preserved
loop-run-preserved c =
    let seen : List NameRun = c.loop-run.invariant.0 in
    let run : NameRun = c.in-Some._run in
    let rest : List NameRun = c.next.new.self in
    let fits : IsRun run =
    record { source_fits = omega arith; first_fits = omega arith; last_fits = omega arith } in (
      seen ++ run ∷ [],
      c.loop-run.invariant.1
          ∙ ap (λ (rs : List NameRun). seen ++ rs) c.in-Some.ensures.steps
          ∙ sym (append_assoc seen (run ∷ []) rest),
      omega (arith, c.loop-run.invariant.2, length-append seen (run ∷ [])),
      All-push IsRun seen run c.loop-run.invariant.3 fits,
    )

pub returns-clause-few : goal.returns-clause-few
returns-clause-few c =
    let seen : List NameRun = c.loop-run.invariant.0 in
    let few : length seen ≤ 2 ^ 32 =
    few_first seen c.loop-run._run-iterator c.loop-run.invariant.3
    (subst (λ (rs : List NameRun). ascend rs ≡ true) c.loop-run.invariant.1
    (runs_ascend c.args.self.now)) in
    omega (arith, few, c.loop-run.invariant.2)
