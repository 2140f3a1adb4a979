use Rattle.lpt_apart.proofs.Resetting.{lines_free_through_resets}
use Rattle.lpt_apart.proofs.laws_freeing.lines_free_through_resets.Goals as goal

pub returns : goal.returns
returns f = lines_free_through_resets
