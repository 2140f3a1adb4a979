-- It is whole exactly where it is settled, since the logs are those of the run.
use Rattle.std.proofs.Common.{rules}
use Rattle.lpt_share.proofs.RunLemmas.{anyway, whole_if}
use Rattle.lpt_share.proofs.judging.is_whole.Goals as goal

pub returns-clause-whole : goal.returns-clause-whole
returns-clause-whole c =
    whole_if c.args.turns c.args.from c.args.owed.now c.args.world.now c.args.logs.now c.is_settled.result
    (search rules) c.is_settled.ensures

pub returns-clause-agree : goal.returns-clause-agree
returns-clause-agree c = anyway c.is_settled.result (search rules)
