use Rattle.std.proofs.Common.{◌∙◌}
use Rattle.lpt_layout_join.proofs.CameLemmas.{count-shown}
use Rattle.lpt_layout_join.proofs.came.CameAs.count.Goals as goal

pub returns : goal.returns
returns c = λ came h. c.count.ensures ∙ count-shown came c.args.self.now h
