-- No more is held than the text may have.
-- It is written out so that a wrong body is refused at once.
use Rattle.std.proofs.Common.{ℕ, arith, length-take}
use Rattle.lpt_text.proofs.lines.LineBuffer.fill.Goals as goal

pub push-requires : goal.push-requires
push-requires g c = omega (arith, length-take {A = ℕ}, c.in-Some.ensures.bound)
