use Rattle.lpt_text.proofs.reading.read_text.Goals as goal
use Rattle.std.proofs.Common.{refl, ◌∙◌, rules}
use Rattle.std.proofs.KnownBytes.{Consumes-trans}

-- out of memory after a read
pub returns-then-is_err-clause-err : goal.returns-then-is_err-clause-err
returns-then-is_err-clause-err g c = (
  refl,
  c.in-Some.ensures.cause ∙ c.loop-chunk.invariant.told,
  (_, Consumes-trans _ _ _ _ _ c.loop-chunk.invariant.consumed c.in-Some.ensures.bytes.0),
)

-- a read that failed
pub returns-in_default-clause-ok : goal.returns-in_default-clause-ok
returns-in_default-clause-ok g c = search rules
