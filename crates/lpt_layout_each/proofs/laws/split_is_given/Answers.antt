use Rattle.lpt_layout_each.proofs.SplitLemmas.{split_given}
use Rattle.lpt_layout_each.proofs.laws.split_is_given.Goals as goal

pub returns : goal.returns
returns c = λ r any n splits packets h e.
    split_given c.made_is_carried.ensures r any n splits packets h e
