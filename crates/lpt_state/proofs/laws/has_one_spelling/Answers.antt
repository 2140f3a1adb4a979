use Rattle.lpt_state.proofs.LawLemmas.{has_one_spelling}
use Rattle.lpt_state.proofs.laws.has_one_spelling.Goals as goal

pub returns : goal.returns
returns c = has_one_spelling
