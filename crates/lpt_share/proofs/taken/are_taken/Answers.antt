-- Each held packet has its mark exactly where one of the entries takes it.
use Rattle.std.proofs.Common.{rules, ap}
use Rattle.lpt_share.proofs.FinishLemmas.{taken_if}
use Rattle.lpt_share.proofs.taken.are_taken.Goals as goal

pub returns : goal.returns
returns c =
    taken_if c.args.limit c.args.logs.now c.args.world.now c.args.entries.now c.in_ok-marks.marks.items
    c.as_slice.result.now c.mark_taken-once.result c.are_marked.result (search rules) (search rules)
    (search rules) (search rules) c.are_marked.ensures
