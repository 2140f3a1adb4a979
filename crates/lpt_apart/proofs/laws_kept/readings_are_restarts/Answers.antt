use Rattle.lpt_apart.proofs.Readings.{readings_are_restarts}
use Rattle.lpt_apart.proofs.laws_kept.readings_are_restarts.Goals as goal

pub returns : goal.returns
returns f = readings_are_restarts
