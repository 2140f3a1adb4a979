use Rattle.std.proofs.Common.{sym, subst, Bool}
use Rattle.lpt_layout.specs.Parts.{piece}
use Rattle.lpt_layout_each.specs.Eaches.{held_begun, seed}
use Rattle.lpt_layout_each.specs.Helds.{Holds}
use Rattle.lpt_layout_each.proofs.held.begin_after.Goals as goal

pub returns : goal.returns
returns c = λ l h.
    subst (λ (b : Bool). Holds (held_begun l (seed b (piece c.args.part.now))) c.behind.result)
    (sym c.if-again.false)
    (c.behind.ensures l h)
