-- Whether the checksum is the one that stands there.
-- The search alone proves it. It is written out so that a wrong body is refused at once.
use Rattle.std.proofs.Common.{rules}
use Rattle.lpt_packet.proofs.reading.is_sealed.Goals as goal

pub returns : goal.returns
returns c = search rules
