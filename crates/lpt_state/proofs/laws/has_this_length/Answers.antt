use Rattle.lpt_state.proofs.LawLemmas.{length_bound, length_of}
use Rattle.lpt_state.proofs.laws.has_this_length.Goals as goal

pub returns-clause-exact : goal.returns-clause-exact
returns-clause-exact c = length_of

pub returns-clause-bound : goal.returns-clause-bound
returns-clause-bound c = length_bound
