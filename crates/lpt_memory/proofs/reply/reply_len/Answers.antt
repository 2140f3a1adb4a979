-- A load has no reply.
use Rattle.std.proofs.Common.{ap, sym}
use Rattle.lpt_memory.specs.declared.request.Plan.{Plan}
use Rattle.lpt_memory.specs.Effects.{reply_length}
use Rattle.lpt_memory.specs.Seen.{plan_meaning}
use Rattle.lpt_memory.proofs.reply.reply_len.Goals as goal

pub returns-in-Load : goal.returns-in-Load
returns-in-Load c = λ body. ap (λ (x : Plan). reply_length (plan_meaning body x)) (sym c.in-Load.is)
