use Rattle.lpt_c_pair.proofs.Careful.{careful_machines_may_be_reset}
use Rattle.lpt_c_pair.proofs.Deleting.{reset_programs_keep_their_memories}
use Rattle.lpt_c_pair.proofs.Histories.{careful_programs_may_be_reset, reset_ends_of_c_keep_the_promise, sendings_leave_the_state}
use Rattle.lpt_c_pair.proofs.laws.resets_keep_the_promise.Goals as goal

pub returns-clause-in_end : goal.returns-clause-in_end
returns-clause-in_end f = reset_ends_of_c_keep_the_promise

pub returns-clause-with_program : goal.returns-clause-with_program
returns-clause-with_program f = reset_programs_keep_their_memories

pub returns-clause-at_any_time : goal.returns-clause-at_any_time
returns-clause-at_any_time f = careful_programs_may_be_reset

pub returns-clause-own_at_any_time : goal.returns-clause-own_at_any_time
returns-clause-own_at_any_time f = careful_machines_may_be_reset

pub returns-clause-sent : goal.returns-clause-sent
returns-clause-sent f = sendings_leave_the_state
