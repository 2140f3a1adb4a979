use Rattle.lpt_layout_each.proofs.RestrictLemmas.{one_name}
use Rattle.lpt_layout_each.proofs.laws.names_are_apart.Goals as goal

pub returns : goal.returns
returns c = λ r any packets n. one_name r any n packets
