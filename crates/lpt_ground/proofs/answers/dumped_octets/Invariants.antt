-- What was added so far, and what the others hold, is what all hold.
use Rattle.std.proofs.Common.{◌≡◌, ◌++◌, drop}
use Rattle.lpt_ground.specs.Answers.{octets_dumped}
use Rattle.lpt_ground.proofs.answers.dumped_octets.Given as goal

abbrev pub invariant-loop-one : goal.invariant-loop-one
invariant-loop-one l =
    l.octets.items ++ octets_dumped (drop l.one-index l.asked) ≡ octets_dumped l.asked
