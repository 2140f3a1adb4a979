use Rattle.lpt_c_pair.proofs.Withholding.{ends_of_c_withhold_nothing, programs_withhold_nothing}
use Rattle.lpt_c_pair.proofs.laws.ends_of_c_withhold_nothing.Goals as goal

pub returns-clause-in_end : goal.returns-clause-in_end
returns-clause-in_end f = ends_of_c_withhold_nothing

pub returns-clause-with_program : goal.returns-clause-with_program
returns-clause-with_program f = programs_withhold_nothing
