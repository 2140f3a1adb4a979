-- The lemmas say it.
use Rattle.lpt_layout.proofs.BareLemmas.{found, again}
use Rattle.lpt_layout.proofs.MessageLemmas.{message_verdict-found, message_verdict-again}
use Rattle.lpt_layout.proofs.PartLemmas.{part_found, part_again}
use Rattle.lpt_layout.proofs.laws.verdicts_are_exact.Goals as goal

pub returns-clause-packet : goal.returns-clause-packet
returns-clause-packet c ends b s o = (found ends b s o, again ends b s)

pub returns-clause-message : goal.returns-clause-message
returns-clause-message c l kind f s r o =
    (message_verdict-found l kind f s r o, message_verdict-again l kind f s)

pub returns-clause-part : goal.returns-clause-part
returns-clause-part c l p b q o = ((λ h. (part_found l q.kind b p q o h).0), part_again l p b q)
