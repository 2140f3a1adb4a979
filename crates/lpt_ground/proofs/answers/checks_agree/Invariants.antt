-- The checks that are left agree with the content that is left exactly where all agree with all.
use Rattle.std.proofs.Common.{◌≡◌, drop}
use Rattle.lpt_ground.specs.Answers.{checks_agree}
use Rattle.lpt_ground.proofs.answers.checks_agree.Given as goal

abbrev pub invariant-loop-one : goal.invariant-loop-one
invariant-loop-one l =
    checks_agree (drop l.one-index l.asked) l.rest ≡ checks_agree l.asked l.content
