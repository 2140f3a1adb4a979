use Rattle.std.proofs.Common.{length}
use Rattle.lpt_settings.proofs.place.first_key.Given as goal

abbrev pub decreases-loop-rest : goal.decreases-loop-rest
decreases-loop-rest l = length l.rest
