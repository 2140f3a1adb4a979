use Rattle.lpt_table.proofs.OfferLemmas.{put_back-takes_out}
use Rattle.lpt_table.proofs.laws.put_back_undoes.Goals as goal

pub returns : goal.returns
returns c = put_back-takes_out
