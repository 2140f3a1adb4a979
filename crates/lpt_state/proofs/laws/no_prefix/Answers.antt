use Rattle.lpt_state.proofs.LawLemmas.{no_prefix}
use Rattle.lpt_state.proofs.laws.no_prefix.Goals as goal

pub returns : goal.returns
returns c = no_prefix
