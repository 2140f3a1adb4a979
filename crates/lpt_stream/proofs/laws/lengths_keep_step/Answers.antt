use Rattle.lpt_stream.proofs.LengthLemmas.{cut_off_there, lengths_lead}
use Rattle.lpt_stream.proofs.laws.lengths_keep_step.Goals as goal

pub returns : goal.returns
returns c = record { whole = lengths_lead; cut_off = cut_off_there }
