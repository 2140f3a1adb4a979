-- The given world goes on from itself, and what was found at the end is so.
use Rattle.std.proofs.Common.{refl, rules}
use Rattle.lpt_share.proofs.Going.{Begins-self}
use Rattle.lpt_share.proofs.RunLemmas.{agree_shown, torn_shown, whole_finished}
use Rattle.lpt_share.proofs.run.run_from.Goals as goal

pub from_origin-shared-requires : goal.from_origin-shared-requires
from_origin-shared-requires g c = rw c.requires (refl, refl, Begins-self c.args.world.journal)

-- nothing was left to do
pub returns-in-Ok-run_judged-clause-finished : goal.returns-in-Ok-run_judged-clause-finished
returns-in-Ok-run_judged-clause-finished g c =
    whole_finished c.args.turns _ _ c.args.world _ _ c.in-Ok-run_judged.ensures.whole (search rules)
    (search rules)

-- the logs and the world show what was left
pub returns-clause-torn : goal.returns-clause-torn
returns-clause-torn g c =
    torn_shown c.args.turns _ _ c.args.world _ _ _ c.in-Err-run_judged.ensures.torn (search rules)
    (search rules)

-- the logs agree
pub returns-clause-err_agree : goal.returns-clause-err_agree
returns-clause-err_agree g c =
    agree_shown _ c.args.world c.into_world-world.result c.in-Err-run_judged.logs.items
    c.in-Err-run_judged.fault c.in-Err-run_judged.ensures.agree (search rules)
