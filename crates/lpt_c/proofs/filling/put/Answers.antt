-- Octets are written over others of the same number.
use Rattle.std.proofs.Common.{rules}
use Rattle.std.proofs.lemmas.Slice.{overwrites}
use Rattle.lpt_c.proofs.filling.put.Goals as goal

pub returns : goal.returns
returns c = search (rules, overwrites)
