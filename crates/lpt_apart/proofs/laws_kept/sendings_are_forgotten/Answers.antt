use Rattle.lpt_apart.proofs.Finishing.{sendings_are_forgotten}
use Rattle.lpt_apart.proofs.laws_kept.sendings_are_forgotten.Goals as goal

pub returns : goal.returns
returns f = sendings_are_forgotten
