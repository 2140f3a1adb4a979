-- The lemmas say it.
use Rattle.lpt_layout_join.proofs.LawLemmas.{alone-is, end-is, message-is}
use Rattle.lpt_layout_join.proofs.laws.split_is_joined.Goals as goal

pub returns-clause-message : goal.returns-clause-message
returns-clause-message c r asked n p m bs split is_asked all each =
    message-is r asked n p m split is_asked bs all each

pub returns-clause-end : goal.returns-clause-end
returns-clause-end c r asked n p m bs any split is_asked all each =
    end-is r asked n p m split is_asked bs any all each

pub returns-clause-alone : goal.returns-clause-alone
returns-clause-alone c r n k p m bs all apart = alone-is r n k p m apart bs all
