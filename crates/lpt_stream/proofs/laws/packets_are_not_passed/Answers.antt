-- What is passed over doesn't end in a packet.
use Rattle.lpt_stream.proofs.EndingLemmas.{not_passed}
use Rattle.lpt_stream.proofs.laws.packets_are_not_passed.Goals as goal

pub returns : goal.returns
returns c = not_passed
