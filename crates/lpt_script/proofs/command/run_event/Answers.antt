use Rattle.lpt_script.proofs.EndLemmas.{accepted_ends, refused_ends}
use Rattle.lpt_script.proofs.command.run_event.Goals as goal

-- the event was accepted
pub returns-in-Ok-clause-ends : goal.returns-in-Ok-clause-ends
returns-in-Ok-clause-ends g c =
    accepted_ends c.args.world.now c.step.new.self c.args.event c.in-Ok.field-0 c.put_last.result
    (g.K.Sink.contents c.args.out.now) (g.K.Sink.contents c.put_last.new.out)
    c.in-Ok.ensures.enabled c.in-Ok.ensures.reply c.in-Ok.ensures.entered
    c.put_last.ensures.ends c.put_last.ensures.accepted

-- the event was refused
pub returns-in-Err-clause-ends : goal.returns-in-Err-clause-ends
returns-in-Err-clause-ends g c =
    refused_ends c.args.world.now c.step.new.self c.args.event c.in-Err.refused.fault c.put_refused.result
    (g.K.Sink.contents c.args.out.now) (g.K.Sink.contents c.put_refused.new.out)
    c.in-Err.ensures.refused c.in-Err.ensures.unchanged c.put_refused.ensures.ends c.put_refused.ensures.refused
    c.put_refused.ensures.memory
