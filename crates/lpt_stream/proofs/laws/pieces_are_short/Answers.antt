use Rattle.lpt_stream.proofs.ByLemmas.{piece_short}
use Rattle.lpt_stream.proofs.laws.pieces_are_short.Goals as goal

pub returns : goal.returns
returns c = piece_short
