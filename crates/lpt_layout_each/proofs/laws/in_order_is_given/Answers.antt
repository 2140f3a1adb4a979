use Rattle.lpt_layout_each.proofs.OrderLemmas.{order_kept}
use Rattle.lpt_layout_each.proofs.laws.in_order_is_given.Goals as goal

pub returns : goal.returns
returns c = λ r any n before front behind last m h. order_kept r any n before front behind last m h
