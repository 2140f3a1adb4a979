-- A run more is written behind those before.
use Rattle.std.proofs.Common.{◌≡◌, ◌∙◌, ap, sym, ℕ, ◌+◌, ◌-◌, ◌*◌, List, [], ◌∷◌, ◌++◌, length, append_assoc, length-append, arith}
use Rattle.lpt_ledger.specs.declared.run.NameRun.{NameRun}
use Rattle.lpt_state.proofs.PuttingLemmas.{next_put}
use Rattle.lpt_state.proofs.writing.put_runs.Goals as goal

pub loop-run-preserved : goal.loop-run-preserved
loop-run-preserved c =
    let seen : List NameRun = c.loop-run.invariant.0 in
    let run : NameRun = c.in-Some.run' in
    let rest : List NameRun = c.next.new.self in
    let count : ℕ = c.loop-run.count in (
      seen ++ run ∷ [],
      c.loop-run.invariant.1
          ∙ ap (λ (rs : List NameRun). seen ++ rs) c.in-Some.ensures.steps
          ∙ sym (append_assoc seen (run ∷ []) rest),
      omega (arith, c.loop-run.invariant.2, length-append seen (run ∷ [])),
      next_put seen run c.args.out.now c.loop-run.out c.copy_from_slice.new.self count
          (6 * count + 6 - 6 * count) c.loop-run.invariant.2 (omega arith)
          c.loop-run.invariant.3 (c.copy_from_slice.ensures.after ∙ c.run_octets.ensures),
    )
