-- What zeros make of the register before is not the register behind.
use Rattle.std.proofs.Common.{◌∙◌}
use Rattle.lpt_packet.proofs.Readings.{false_eq}
use Rattle.lpt_stream.proofs.search.may_be_zero.Goals as goal

pub returns-clause-never : goal.returns-clause-never
returns-clause-never c = λ n other of_one is.
    false_eq c.behind_zeros.result c.args.behind other (c.behind_zeros.ensures n of_one ∙ is)
