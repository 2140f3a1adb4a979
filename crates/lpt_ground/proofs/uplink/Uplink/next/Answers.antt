-- The request's pass goes on, and so the next part is put.
use Rattle.std.proofs.Common.{◌∙◌, ap, sym}
use Rattle.lpt_ground.specs.Passes.{state_of}
use Rattle.lpt_ground.specs.Uplinks.{next_by, next_way, way_of}
use Rattle.lpt_ground.proofs.uplink.Uplink.next.Goals as goal

pub returns-in-Put-clause-step : goal.returns-in-Put-clause-step
unfolding next_way
returns-in-Put-clause-step c =
    let w = way_of c.args.self.now (state_of c.args.pass.now) in
    c.next_part.ensures.step (state_of c.args.pass.now)
    ∙ ap (next_by c.args.self.now.large w) (sym c.in-Put.is ∙ c.next.ensures.step)

pub returns-in-Listen-clause-step : goal.returns-in-Listen-clause-step
unfolding next_way
returns-in-Listen-clause-step c =
    let w = way_of c.args.self.now (state_of c.args.pass.now) in
    c.next_part-in-Listen.ensures.step (state_of c.args.pass.now)
    ∙ ap (next_by c.args.self.now.large w) (sym c.in-Listen.is ∙ c.next.ensures.step)
