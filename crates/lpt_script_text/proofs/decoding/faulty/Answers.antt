-- Octets that fail a test are faulty.
-- It is written out so that a wrong body is refused at once.
use Rattle.std.proofs.Common.{refl}
use Rattle.lpt_script_text.proofs.decoding.faulty.Goals as goal

pub returns-clause-faulty : goal.returns-clause-faulty
returns-clause-faulty c = refl
