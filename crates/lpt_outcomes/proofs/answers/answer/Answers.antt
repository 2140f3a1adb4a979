-- One more was told.
use Rattle.std.proofs.Common.{rules}
use Rattle.std.proofs.lemmas.List.Edits.{map_over_more}
use Rattle.lpt_outcomes.specs.Answers.{answered_by}
use Rattle.lpt_outcomes.proofs.answers.answer.Goals as goal

pub loop-asked-preserved : goal.loop-asked-preserved
loop-asked-preserved c =
    rw c.answer.ensures (search (rules, map_over_more (answered_by c.args.outcomes.now)))
