-- Each call goes on from where the one before came.
use Rattle.lpt_c_ground.proofs.CallLemmas.{calls-carry}
use Rattle.lpt_c_ground.proofs.laws.calls_carry_a_pass.Goals as goal

pub returns : goal.returns
returns c = calls-carry
