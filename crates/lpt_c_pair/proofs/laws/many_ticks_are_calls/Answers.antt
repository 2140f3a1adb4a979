use Rattle.lpt_c_pair.proofs.Ticking.{many_ticks_are_ticks}
use Rattle.lpt_c_pair.proofs.laws.many_ticks_are_calls.Goals as goal

pub returns : goal.returns
returns f = many_ticks_are_ticks
