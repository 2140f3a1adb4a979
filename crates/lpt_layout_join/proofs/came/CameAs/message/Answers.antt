-- Fewer parts came than there are.
use Rattle.std.proofs.Common.{◌∙◌, sym, arith}
use Rattle.lpt_layout_join.proofs.CameLemmas.{message-few}
use Rattle.lpt_layout_join.proofs.came.CameAs.message.Goals as goal

pub returns-in-Some : goal.returns-in-Some
returns-in-Some c = λ came h.
    message-few came c.args.self.now c.in-Some.last h
    (sym c.told_last.ensures.is ∙ c.in-Some.is)
    (omega (arith, c.if-count-last.true, c.count.ensures))
