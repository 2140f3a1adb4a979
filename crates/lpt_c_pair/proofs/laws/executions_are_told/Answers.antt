use Rattle.lpt_c_pair.proofs.Handing.{executions_are_told, given_executions_are_told}
use Rattle.lpt_c_pair.proofs.laws.executions_are_told.Goals as goal

pub returns-clause-in_end : goal.returns-clause-in_end
returns-clause-in_end f = executions_are_told

pub returns-clause-with_program : goal.returns-clause-with_program
returns-clause-with_program f = given_executions_are_told
