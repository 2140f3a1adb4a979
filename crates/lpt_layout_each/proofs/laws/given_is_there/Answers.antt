use Rattle.lpt_layout_each.proofs.SoundLemmas.{given_good}
use Rattle.lpt_layout_each.proofs.laws.given_is_there.Goals as goal

pub returns : goal.returns
returns c = λ r any packets n m front back w is gives.
    given_good r any packets n m front back w is gives
