-- Less than a packet is no packet.
use Rattle.std.proofs.Common.{refl}
use Rattle.lpt_stream.proofs.PieceLemmas.{unfinished_begins}
use Rattle.lpt_stream.proofs.found.sealed_in_front.Goals as goal

pub returns-in_err-len-clause-none : goal.returns-in_err-len-clause-none
returns-in_err-len-clause-none c is =
    unfinished_begins c.args.in_step c.args.bytes.now (c.in_err-len.ensures.none.0 refl)
