-- As many as the requests.
use Rattle.std.proofs.Common.{◌∙◌, ◌≤◌, arith, sym, ap, refl, subst, length, ℕ}
use Rattle.lpt_ground_run.proofs.PlanLemmas.{length-planned}
use Rattle.lpt_ground_run.proofs.planning.plan_of.Goals as goal

pub returns-in-Ok-clause-planned : goal.returns-in-Ok-clause-planned
returns-in-Ok-clause-planned c = record {
  requests = c.args.requests.now;
  ask = refl;
  are = c.in-Ok.ensures.planned;
  few =
      subst (λ (n : ℕ). n ≤ 16384)
      (sym (ap length c.in-Ok.ensures.planned
      ∙ length-planned c.args.heads.now.apid c.args.heads.now.source c.args.heads.now.count
      c.args.heads.now.flags c.args.requests.now))
      (omega (arith, c.if-count-gt-MOST.false));
}
