use Rattle.lpt_state.proofs.LawLemmas.{bursts_show}
use Rattle.lpt_state.proofs.laws.bursts_show.Goals as goal

pub returns : goal.returns
returns c = bursts_show
