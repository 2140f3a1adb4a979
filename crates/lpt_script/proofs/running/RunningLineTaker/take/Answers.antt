use Rattle.std.proofs.Common.{◌∙◌, ap, is_some}
use Rattle.lpt_script.specs.Scripts.{is_later, kept_of, line_ran, says}
use Rattle.lpt_script.proofs.LineLemmas.{breaks_line, ended_last, fault_taken, takes_line}
use Rattle.lpt_script.proofs.running.RunningLineTaker.take.Goals as goal

-- a line was run
pub returns-in-Ok-clause-over : goal.returns-in-Ok-clause-over
returns-in-Ok-clause-over g c =
    ap is_some c.ended_by-self.ensures ∙ ended_last c.in-Ok.taken c.args.number

pub returns-in-Ok-clause-takes : goal.returns-in-Ok-clause-takes
returns-in-Ok-clause-takes g c =
    takes_line (is_later c.args.self.now.shows) (is_later c.run_line.new.self.shows)
    (kept_of c.args.self.now.shows) (kept_of c.run_line.new.self.shows)
    c.args.self.now.world c.run_line.new.self.world c.args.self.now.bad c.ended_by-self.result c.args.number c.args.line.now c.in-Ok.taken
    (g.K.Sink.contents c.args.out.now) (g.K.Sink.contents c.run_line.new.out)
    c.requires c.in-Ok.ensures.same c.in-Ok.ensures.left c.ended_by-self.ensures c.in-Ok.ensures.ends

-- it could not be
pub returns-in-Err-clause-breaks : goal.returns-in-Err-clause-breaks
returns-in-Err-clause-breaks g c =
    breaks_line (is_later c.args.self.now.shows) (kept_of c.args.self.now.shows) c.args.self.now.world c.run_line.new.self.world
    c.args.self.now.bad c.args.number c.args.line.now c.in-Err.fault
    (g.K.Sink.contents c.args.out.now) (g.K.Sink.contents c.run_line.new.out)
    c.requires c.in-Err.ensures.ends

pub returns-in-Err-clause-fault : goal.returns-in-Err-clause-fault
returns-in-Err-clause-fault g c =
    fault_taken (line_ran (says (is_later c.args.self.now.shows) c.args.self.now.world.config.source c.args.line.now) c.args.number c.args.self.now.world)
    c.args.number c.in-Err.fault c.run_line.new.self.world
    (g.K.Sink.contents c.args.out.now) (g.K.Sink.contents c.run_line.new.out) c.in-Err.ensures.ends
