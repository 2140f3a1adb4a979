use Rattle.lpt_layout_each.proofs.SentLemmas.{sent_given}
use Rattle.lpt_layout_each.proofs.laws.sent_is_given.Goals as goal

pub returns : goal.returns
returns c = λ r any n messages packets h. sent_given r any n messages packets h
