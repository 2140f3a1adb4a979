-- The stream is at its end.
use Rattle.std.proofs.Common.{◌≡◌, subst, ℕ}
use Rattle.lpt_layout.specs.declared.layout.Layout.{Layout}
use Rattle.lpt_compare.specs.Read.{AreChecks}
use Rattle.lpt_compare.proofs.checks.read_checks.Goals as goal

pub returns-in-Ok-clause-checks : goal.returns-in-Ok-clause-checks
returns-in-Ok-clause-checks g c =
    let read = c.in-Ok.ensures.taken in
    let last = c.in-Ok.last in
    let taken = read.gives.0 in
    let ps = read.pieces in
    record {
      stream = read.stream;
      pieces = ps;
      in_step = read.in_step;
      rest = read.rest;
      consumed = read.consumed;
      leads = read.leads;
      ends = read.ends;
      gives = subst (λ (l : Layout). AreChecks l c.args.apid c.args.memory ps last.checks)
          taken.same_layout
          (subst (λ (a : ℕ). AreChecks last.layout a c.args.memory ps last.checks) taken.same_apid
          (subst (λ (m : ℕ). AreChecks last.layout last.apid m ps last.checks) taken.same_memory
          taken.checks_are));
    }
