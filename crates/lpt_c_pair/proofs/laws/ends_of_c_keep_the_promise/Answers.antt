use Rattle.lpt_c_pair.proofs.Programs.{programs_keep_their_memories}
use Rattle.lpt_c_pair.proofs.Running.{ends_of_c_keep_the_promise}
use Rattle.lpt_c_pair.proofs.laws.ends_of_c_keep_the_promise.Goals as goal

pub returns-clause-in_end : goal.returns-clause-in_end
returns-clause-in_end f = ends_of_c_keep_the_promise

pub returns-clause-with_program : goal.returns-clause-with_program
returns-clause-with_program f = programs_keep_their_memories
