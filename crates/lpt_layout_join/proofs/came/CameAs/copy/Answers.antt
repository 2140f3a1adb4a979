use Rattle.std.proofs.Common.{refl}
use Rattle.lpt_layout_join.proofs.CopyLemmas.{shows-copy}
use Rattle.lpt_layout_join.proofs.came.CameAs.copy.Goals as goal

pub returns-clause-came : goal.returns-clause-came
returns-clause-came c = λ came h.
    shows-copy came c.args.self.now _ c.in_ok-slots.ensures.octets c.in_ok-slots.ensures.spans
    refl refl refl h
