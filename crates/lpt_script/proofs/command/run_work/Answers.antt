use Rattle.std.proofs.Common.{rules, subst, refl, Ok, Err, Some}
use Rattle.lpt_script.specs.Ends.{LineEnds}
use Rattle.lpt_events.specs.declared.event.Event.TheVariants.{Claim, Commit, Apply}
use Rattle.lpt_events.specs.declared.worker.Worker.TheVariants.{W1}
use Rattle.lpt_script.specs.Scripts.{event_stepped, and_then}
use Rattle.lpt_script.proofs.EndLemmas.{then_ends, first_ends, good_events}
use Rattle.lpt_script.proofs.command.run_work.Goals as goal

-- a job was claimed and committed
pub returns-in-Ok-None-clause-ends : goal.returns-in-Ok-None-clause-ends
returns-in-Ok-None-clause-ends g c =
    then_ends
    (and_then (event_stepped c.args.world.now (Claim W1)) (λ w. event_stepped w (Commit W1)))
    (λ w. event_stepped w Apply)
    c.run_event.result c.run_both.new.world c.run_event.new.world
    (g.K.Sink.contents c.args.out.now) (g.K.Sink.contents c.run_both.new.out) (g.K.Sink.contents c.run_event.new.out)
    (search rules) c.run_event.ensures.ends

-- none was
pub returns-in-Ok-Some-clause-ends : goal.returns-in-Ok-Some-clause-ends
returns-in-Ok-Some-clause-ends g c =
    let a = g.K.Sink.contents c.args.out.now in
    let b = g.K.Sink.contents c.run_both.new.out in
    let claimed =
    and_then (event_stepped c.args.world.now (Claim W1)) (λ w. event_stepped w (Commit W1)) in
    first_ends claimed c.run_both.new.world (λ w. event_stepped w Apply)
    (Ok (Some c.in-Ok-Some.reason)) a b (good_events c.args.world.now (Claim W1) (Commit W1))
    (subst (λ r. LineEnds claimed (Ok r) c.run_both.new.world a b) c.in-Ok-Some.field-0-is c.in-Ok-Some.ensures.ends)
    refl

-- a line could not be written
pub returns-in-Err-clause-ends : goal.returns-in-Err-clause-ends
returns-in-Err-clause-ends g c =
    first_ends
    (and_then (event_stepped c.args.world.now (Claim W1)) (λ w. event_stepped w (Commit W1)))
    c.run_both.new.world (λ w. event_stepped w Apply)
    (Err c.in-Err.fault) (g.K.Sink.contents c.args.out.now) (g.K.Sink.contents c.run_both.new.out)
    (good_events c.args.world.now (Claim W1) (Commit W1)) c.in-Err.ensures.ends tt
