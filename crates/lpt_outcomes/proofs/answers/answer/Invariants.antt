-- The requests up to the place were told.
use Rattle.std.proofs.Common.{◌≡◌, ◌++◌, map, take, drop}
use Rattle.lpt_outcomes.specs.Answers.{answered_by}
use Rattle.lpt_outcomes.proofs.answers.answer.Given as goal

abbrev pub invariant-loop-asked : goal.invariant-loop-asked
invariant-loop-asked l =
    l.requests
    ≡ map (answered_by l.outcomes) (take l.asked-index l.initial.requests)
    ++ drop l.asked-index l.initial.requests
