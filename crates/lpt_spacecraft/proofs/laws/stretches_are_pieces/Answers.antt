use Rattle.std.proofs.Common.{true}
use Rattle.lpt_spacecraft.proofs.PieceLemmas.{are-pieces}
use Rattle.lpt_spacecraft.proofs.laws.stretches_are_pieces.Goals as goal

pub returns : goal.returns
returns f =
    λ passing stream stretches rest h.
    let k = are-pieces passing true h.0 stream rest stretches h.1 in (k.0, h.0, k.1, k.2)
