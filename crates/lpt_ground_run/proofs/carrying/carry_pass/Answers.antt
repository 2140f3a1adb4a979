-- It ends as `carry` does.
use Rattle.std.proofs.Common.{None}
use Rattle.lpt_ground.specs.Passes.{state_of}
use Rattle.lpt_ground_run.specs.Handing.{IsPacketOf}
use Rattle.lpt_ground_run.specs.Carried.{CameTo}
use Rattle.lpt_ground_run.proofs.CarriedLemmas.{by-end, came-to}
use Rattle.lpt_ground_run.proofs.carrying.carry_pass.Goals as goal

pub returns-clause-carried : goal.returns-clause-carried
returns-clause-carried g c =
    let P = IsPacketOf g.J.Downlink.longest g.J.Downlink.octets in
    let terms = c.args.pass.now.terms in
    let s = state_of c.args.pass.now in
    let t = state_of c.carry-ended.new.pass in
    let old = g.K.Sink.contents c.args.out.now in
    let new = g.K.Sink.contents c.carry-ended.new.out in
    by-end (CameTo P terms s t old new) c.carry-ended.result c.ended_by.result c.ended_by.ensures
    (came-to P terms s t None None old new c.carry-ended.result c.carry-ended.ensures.stop
    c.carry-ended.ensures.paced)
