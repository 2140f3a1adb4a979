use Rattle.lpt_c_pair.proofs.Loading.{loads_go}
use Rattle.lpt_c_pair.proofs.laws.loads_go_where_they_say.Goals as goal

pub returns : goal.returns
returns f = loads_go
