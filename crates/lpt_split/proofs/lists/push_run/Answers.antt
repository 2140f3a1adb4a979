-- A number more, and all of them.
use Rattle.std.proofs.Common.{◌≡◌, ◌∙◌, ap, arith, ◌+◌, ◌-◌, ◌≤◌, ◌++◌}
use Rattle.lpt_split.specs.Lists.{run}
use Rattle.lpt_split.proofs.ListLemmas.{run-pushed}
use Rattle.lpt_split.proofs.lists.push_run.Goals as goal

pub loop-number-preserved : goal.loop-number-preserved
loop-number-preserved c = record {
  so_far = c.in_ok-push.ensures.items
      ∙ run-pushed c.args.parts.now.items c.loop-number.parts.items c.args.from
      c.loop-number.number c.loop-number.auto.number c.loop-number.invariant.so_far;
}

pub returns : goal.returns
returns c =
    let order : c.args.from ≤ c.args.to + 1 = omega (arith, c.requires.order) in
    let within = c.loop-number.auto.number-end order in
    let end : c.loop-number.number ≡ c.args.to + 1 = omega (arith, within, c.loop-number-test.false) in
    c.loop-number.invariant.so_far
    ∙ ap (λ n. c.args.parts.now.items ++ run c.args.from (n - c.args.from)) end
