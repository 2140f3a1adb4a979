use Rattle.lpt_apart.proofs.Talked.{steps_are_talked}
use Rattle.lpt_apart.proofs.laws_freeing.steps_are_talked.Goals as goal

pub returns : goal.returns
returns f = steps_are_talked
