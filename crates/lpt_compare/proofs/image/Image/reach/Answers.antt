-- The areas that weren't looked at begin behind the place.
use Rattle.std.proofs.Common.{ap, arith}
use Rattle.std.proofs.lemmas.List.{get_or_default}
use Rattle.lpt_compare.specs.declared.checked.Checked.{Checked}
use Rattle.lpt_compare.proofs.ReachLemmas.{open-at}
use Rattle.lpt_compare.proofs.image.Image.reach.Goals as goal

-- one begins behind it
pub returns-then-at-from-clause-open : goal.returns-then-at-from-clause-open
returns-then-at-from-clause-open c =
    let i = c.loop-check.check-index in
    let checks = c.args.checks.now in
    open-at c.args.self.now.from c.args.self.now.octets.now checks i
    c.loop-check.at c.loop-check.invariant.past
    (λ k d low more.
    let e : Checked = record { address = 0; len = 0; checksum = 0 } in
    let same = ap (λ (x : Checked). x.address) (get_or_default checks k d e more) in
    omega (arith, c.requires i k e low more, same, c.from.ensures, c.if-at-from.true))

-- all were looked at
pub returns-clause-open : goal.returns-clause-open
returns-clause-open c =
    open-at c.args.self.now.from c.args.self.now.octets.now c.args.checks.now
    c.loop-check.check-index c.loop-check.at c.loop-check.invariant.past
    (λ k d low more. absurd (omega arith))
