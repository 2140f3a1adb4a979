-- All up to the place is shown, and no area that was looked at and agrees ends behind it.
use Rattle.std.proofs.Common.{◌≤◌}
use Rattle.lpt_compare.specs.Images.{AreShown}
use Rattle.lpt_compare.proofs.ReachLemmas.{Past}
use Rattle.lpt_compare.proofs.image.Image.reach.Given as goal

abbrev pub invariant-loop-check : goal.invariant-loop-check
invariant-loop-check l = record {
  start : l.self.from ≤ l.at;
  shown : AreShown l.self.from l.self.octets.now l.checks l.self.from l.at;
  past : Past l.self.from l.self.octets.now l.checks l.check-index l.at;
}
