-- The journal is shorter than the seat had seen it, and the log is as it was.
use Rattle.std.proofs.Common.{refl, sym}
use Rattle.lpt_share.proofs.call.answer.Goals as goal

pub returns-then-place-log-clause-fault : goal.returns-then-place-log-clause-fault
returns-then-place-log-clause-fault g c = (
  (refl, refl),
  refl,
  refl,
  c.if-place-log.true,
  (
    c.args.world.now,
    (c.len-place.ensures.goes_on, c.len-place.ensures.legal),
    sym c.len-place.ensures.length,
  ),
)
