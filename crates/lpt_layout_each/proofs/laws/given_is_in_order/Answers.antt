use Rattle.lpt_layout_each.proofs.SureLemmas.{given-in-order}
use Rattle.lpt_layout_each.proofs.laws.given_is_in_order.Goals as goal

pub returns : goal.returns
returns c = λ r packets n m front back w bare is gives.
    given-in-order r packets n m front back w bare is gives
