use Rattle.lpt_requests.proofs.ExecutedLemmas.{executed-cut, executed-image}
use Rattle.lpt_requests.proofs.laws.cut_loads_are_one_load.Goals as goal

pub returns : goal.returns
returns c = record { areas = executed-cut; image = executed-image }
