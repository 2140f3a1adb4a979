-- Each part of a message fits, and tells its size.
use Rattle.lpt_layout.proofs.SplitLemmas.{part_of-fits, size-told}
use Rattle.lpt_layout.proofs.laws.parts_fit_as.Goals as goal

pub returns-clause-fits : goal.returns-clause-fits
returns-clause-fits c = part_of-fits

pub returns-clause-size : goal.returns-clause-size
returns-clause-size c = size-told
