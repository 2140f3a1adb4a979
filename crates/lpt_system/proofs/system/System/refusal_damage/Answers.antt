-- What noise leaves is refused by its length, and then where it can be read.
use Rattle.std.proofs.Common.{rules}
use Rattle.lpt_system.proofs.system.System.refusal_damage.Goals as goal

pub returns : goal.returns
returns c = search rules
