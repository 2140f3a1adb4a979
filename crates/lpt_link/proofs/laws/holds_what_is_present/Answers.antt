-- The law is the lemma.
use Rattle.lpt_link.proofs.PresentLemmas.{holds-present}
use Rattle.lpt_link.proofs.laws.holds_what_is_present.Goals as goal

pub returns : goal.returns
returns c = holds-present
