-- It ends as `carry_large` does.
use Rattle.std.proofs.Common.{None}
use Rattle.lpt_ground.specs.Passes.{state_of}
use Rattle.lpt_ground.specs.Uplinks.{way_of}
use Rattle.lpt_ground_run.specs.Handing.{IsPacketOf}
use Rattle.lpt_ground_run.specs.Carried.{CameUp}
use Rattle.lpt_ground_run.proofs.CarriedLemmas.{by-end, came-up}
use Rattle.lpt_ground_run.proofs.carrying.carry_uplink.Goals as goal

pub returns-clause-carried : goal.returns-clause-carried
returns-clause-carried g c =
    let P = IsPacketOf g.J.Downlink.longest g.J.Downlink.octets in
    let l = c.args.uplink.now.large in
    let terms = c.args.pass.now.terms in
    let w = way_of c.args.uplink.now (state_of c.args.pass.now) in
    let ended = c.carry_large-ended in
    let v = way_of ended.new.uplink (state_of ended.new.pass) in
    let old = g.K.Sink.contents c.args.out.now in
    let new = g.K.Sink.contents ended.new.out in
    by-end (CameUp P l terms w v old new) ended.result c.ended_by.result c.ended_by.ensures
    (came-up P l ended.new.uplink.large terms w v None None old new ended.result ended.ensures.large
    ended.ensures.stop ended.ensures.paced)
