-- A piece more of a stream that begins at 0.
use Rattle.lpt_layout_each.proofs.EachLemmas.{from-zero}
use Rattle.lpt_layout_each.proofs.each.TellerTakerNowhere.take.Goals as goal

pub returns-clause-taken : goal.returns-clause-taken
returns-clause-taken g c = λ from first old pieces h at.
    from-zero from _ c.add.result h.0 (c.add.ensures.told first (g.T.TakerAs.heard old) pieces h.1)
