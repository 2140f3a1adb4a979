use Rattle.lpt_stream.proofs.CutLemmas.{one_cut}
use Rattle.lpt_stream.proofs.laws.streams_are_cut_one_way.Goals as goal

pub returns : goal.returns
returns c = one_cut
