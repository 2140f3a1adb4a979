-- What became of a line is what became of its command.
use Rattle.lpt_script.proofs.LineLemmas.{taken_done, taken_fault, taken_refused}
use Rattle.lpt_script.specs.Scripts.{command_ran}
use Rattle.lpt_script_views.proofs.viewing.run_asked.Goals as goal

pub returns-in-Ok-Some-clause-ends : goal.returns-in-Ok-Some-clause-ends
returns-in-Ok-Some-clause-ends g c =
    taken_refused (command_ran c.args.command c.args.world.now) c.args.number _ _ c.run_command.new.world
    (g.K.Sink.contents c.args.out.now) (g.K.Sink.contents c.run_command.new.out)
    c.in-Ok-Some.field-0-is c.in-Ok-Some.ensures.ends

pub returns-in-Ok-None-clause-ends : goal.returns-in-Ok-None-clause-ends
returns-in-Ok-None-clause-ends g c =
    taken_done (command_ran c.args.command c.args.world.now) c.args.number _ c.run_command.new.world
    (g.K.Sink.contents c.args.out.now) (g.K.Sink.contents c.run_command.new.out)
    c.in-Ok-None.field-0-is c.in-Ok-None.ensures.ends

pub returns-in-Err-clause-ends : goal.returns-in-Err-clause-ends
returns-in-Err-clause-ends g c =
    taken_fault (command_ran c.args.command c.args.world.now) c.args.number c.in-Err.fault c.run_command.new.world
    (g.K.Sink.contents c.args.out.now) (g.K.Sink.contents c.run_command.new.out) c.in-Err.ensures.ends
