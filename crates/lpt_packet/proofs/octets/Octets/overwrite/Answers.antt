-- Octets are written over others of the same number.
-- The search proves it. It is written out so that a wrong body is refused at once.
use Rattle.std.proofs.Common.{rules}
use Rattle.std.proofs.lemmas.Slice.{overwrites}
use Rattle.lpt_packet.proofs.octets.Octets.overwrite.Goals as goal

pub returns : goal.returns
returns c = search (rules, overwrites)
