use Rattle.std.proofs.Common.{rules, subst, refl, Ok, Err, Some}
use Rattle.lpt_script.specs.Ends.{LineEnds}
use Rattle.lpt_script.specs.Scripts.{event_stepped}
use Rattle.lpt_script.proofs.EndLemmas.{then_ends, first_ends, good_event}
use Rattle.lpt_script.proofs.command.run_both.Goals as goal

-- the first was accepted
pub returns-in-Ok-None-clause-ends : goal.returns-in-Ok-None-clause-ends
returns-in-Ok-None-clause-ends g c =
    then_ends (event_stepped c.args.world.now c.args.first) (λ w. event_stepped w c.args.second)
    c.run_event-in-Ok-None.result c.run_event.new.world c.run_event-in-Ok-None.new.world
    (g.K.Sink.contents c.args.out.now) (g.K.Sink.contents c.run_event.new.out) (g.K.Sink.contents c.run_event-in-Ok-None.new.out)
    (search rules) c.run_event-in-Ok-None.ensures.ends

-- it was refused
pub returns-in-Ok-Some-clause-ends : goal.returns-in-Ok-Some-clause-ends
returns-in-Ok-Some-clause-ends g c =
    let a = g.K.Sink.contents c.args.out.now in
    let b = g.K.Sink.contents c.run_event.new.out in
    first_ends (event_stepped c.args.world.now c.args.first) c.run_event.new.world
    (λ w. event_stepped w c.args.second)
    (Ok (Some c.in-Ok-Some.fault)) a b (good_event c.args.world.now c.args.first)
    (subst (λ r. LineEnds (event_stepped c.args.world.now c.args.first) (Ok r) c.run_event.new.world
    a b)
    c.in-Ok-Some.field-0-is c.in-Ok-Some.ensures.ends)
    refl

-- its line could not be written
pub returns-in-Err-clause-ends : goal.returns-in-Err-clause-ends
returns-in-Err-clause-ends g c =
    first_ends (event_stepped c.args.world.now c.args.first) c.run_event.new.world
    (λ w. event_stepped w c.args.second)
    (Err c.in-Err.fault) (g.K.Sink.contents c.args.out.now) (g.K.Sink.contents c.run_event.new.out)
    (good_event c.args.world.now c.args.first) c.in-Err.ensures.ends tt
