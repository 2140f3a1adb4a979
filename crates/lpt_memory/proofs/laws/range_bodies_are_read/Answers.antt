-- Ranges, one after the other.
use Rattle.lpt_memory.specs.Requests.{front_range}
use Rattle.lpt_memory.specs.Spellings.{range_text, RangeFits}
use Rattle.lpt_memory.proofs.BodyLemmas.{range_takes, range_again, body_takes, body_again}
use Rattle.lpt_memory.proofs.laws.range_bodies_are_read.Goals as goal

pub returns-clause-spelled : goal.returns-clause-spelled
returns-clause-spelled c = body_again front_range range_text RangeFits range_again

pub returns-clause-only : goal.returns-clause-only
returns-clause-only c = body_takes front_range range_text RangeFits range_takes
