-- What telemetry settles waits, so it stands from the place on.
use Rattle.std.proofs.Common.{◌∙◌, sym, ap}
use Rattle.std.specs.List.{position}
use Rattle.std.proofs.lemmas.List.{take_rest}
use Rattle.lpt_pus.specs.Telemetry.{telemetry}
use Rattle.lpt_ground.specs.Telling.{settles}
use Rattle.lpt_ground.proofs.WaitingLemmas.{settles-from, settles-nowhere}
use Rattle.lpt_ground.proofs.finding.first_settled.Goals as goal

pub returns-in-Some : goal.returns-in-Some
returns-in-Some c =
    let t = telemetry c.args.head.now c.args.body.now in
    sym (settles-from c.args.starts t c.args.asked.now c.args.from c.in-Some.k c.requires.front
    (ap (position (settles c.args.starts t)) (sym (take_rest c.args.asked.now c.args.from))
    ∙ sym c.settled_in.ensures.first ∙ c.in-Some.is))

pub returns-in-None : goal.returns-in-None
returns-in-None c =
    let t = telemetry c.args.head.now c.args.body.now in
    sym (settles-nowhere c.args.starts t c.args.asked.now c.args.from c.requires.front
    (ap (position (settles c.args.starts t)) (sym (take_rest c.args.asked.now c.args.from))
    ∙ sym c.settled_in.ensures.first ∙ c.in-None.is))
