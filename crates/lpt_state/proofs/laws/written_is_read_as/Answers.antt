use Rattle.lpt_state.proofs.LawLemmas.{written_is_read_as}
use Rattle.lpt_state.proofs.laws.written_is_read_as.Goals as goal

pub returns : goal.returns
returns c = written_is_read_as
