use Rattle.lpt_packet.proofs.SightLemmas.{seen_sight, sight_seen, seen_verdict}
use Rattle.lpt_packet.proofs.laws.seen_is_read.Goals as goal

pub returns-clause-relation : goal.returns-clause-relation
returns-clause-relation c = λ b s. (seen_sight b s, sight_seen b s)

pub returns-clause-tests : goal.returns-clause-tests
returns-clause-tests c = seen_verdict
