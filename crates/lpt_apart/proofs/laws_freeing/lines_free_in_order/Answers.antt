use Rattle.lpt_apart.proofs.Talking.{lines_free_in_order}
use Rattle.lpt_apart.proofs.laws_freeing.lines_free_in_order.Goals as goal

pub returns : goal.returns
returns f = lines_free_in_order
