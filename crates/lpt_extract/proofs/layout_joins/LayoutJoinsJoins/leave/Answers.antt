-- What is left is told behind what was told.
use Rattle.std.proofs.Common.{subst, false}
use Rattle.lpt_carried.specs.declared.reading.Reading.{Reading}
use Rattle.lpt_layout_each.specs.Helds.{HoldsEach}
use Rattle.lpt_layout_each.proofs.EachLemmas.{told-all}
use Rattle.lpt_extract.proofs.ReadLemmas.{on-ok}
use Rattle.lpt_extract.proofs.layout_joins.LayoutJoinsJoins.leave.Goals as goal

pub returns-clause-told : goal.returns-clause-told
returns-clause-told g c = λ first old bs h told.
    let r = first.reading in
    on-ok _ _ c.leave_as.result
    (told-all r false (g.T.TakerAs.heard old) (g.T.TakerAs.heard c.args.taker.now)
    (g.T.TakerAs.heard c.leave_as.new.taker) bs told)
    (c.leave_as.ensures.told r false bs
    (subst (λ (x : Reading). HoldsEach x false bs c.args.self.helds) h.0 h.1))
