-- The lower 14 bits. It is written out so that a wrong body is refused at once.
use Rattle.std.proofs.lemmas.Nat.{and_mask}
use Rattle.lpt_packet.proofs.reading.count_in.Goals as goal

pub returns : goal.returns
returns c = and_mask c.args.second 14
