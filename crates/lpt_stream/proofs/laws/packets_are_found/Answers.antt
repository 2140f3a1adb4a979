use Rattle.lpt_stream.proofs.FoundLemmas.{all_found}
use Rattle.lpt_stream.proofs.laws.packets_are_found.Goals as goal

pub returns : goal.returns
returns c = all_found
