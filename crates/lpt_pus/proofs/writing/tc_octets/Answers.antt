-- The pieces are none and the body. It is written out so that a wrong body is refused at once.
use Rattle.lpt_pus.proofs.writing.tc_octets.Goals as goal

pub returns : goal.returns
returns c = c.tc_pieces.ensures
