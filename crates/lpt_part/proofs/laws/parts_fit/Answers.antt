-- Each part of a message fits.
use Rattle.std.proofs.Common.{arith}
use Rattle.lpt_part.proofs.SplitLemmas.{part_of-fits, part_count-two, part_count-most}
use Rattle.lpt_part.proofs.laws.parts_fit.Goals as goal

pub returns-clause-fits : goal.returns-clause-fits
returns-clause-fits c = part_of-fits

pub returns-clause-count : goal.returns-clause-count
returns-clause-count c len p size long most =
    (part_count-two len p (omega arith) long, part_count-most len p size long most)

pub returns-clause-number : goal.returns-clause-number
returns-clause-number c len p k size long most within =
    omega (arith, part_count-most len p size long most)
