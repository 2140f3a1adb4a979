use Rattle.lpt_spacecraft.proofs.KeptLemmas.{kept_is_read}
use Rattle.lpt_spacecraft.proofs.laws.kept_is_read.Goals as goal

pub returns : goal.returns
returns f = kept_is_read
