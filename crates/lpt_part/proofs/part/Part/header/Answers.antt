-- The identifier stands first. It is written out so that a wrong body is refused at once.
use Rattle.std.proofs.Common.{refl}
use Rattle.lpt_part.specs.Parts.{body_of}
use Rattle.lpt_part.proofs.part.Part.header.Goals as goal

pub returns : goal.returns
unfolding body_of
returns c = rw (c.to_be_bytes-id.ensures, c.to_be_bytes-number.ensures) refl
