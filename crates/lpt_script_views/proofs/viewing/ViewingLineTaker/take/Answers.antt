use Rattle.std.proofs.Common.{◌∙◌, ap, is_some}
use Rattle.lpt_script.proofs.LineLemmas.{ended_last, fault_taken}
use Rattle.lpt_script_views.specs.Viewing.{line_viewed}
use Rattle.lpt_script_views.proofs.LineLemmas.{breaks_line, takes_line}
use Rattle.lpt_script_views.proofs.viewing.ViewingLineTaker.take.Goals as goal

-- a line was run
pub returns-in-Ok-clause-over : goal.returns-in-Ok-clause-over
returns-in-Ok-clause-over g c =
    ap is_some c.ended_by-self.ensures ∙ ended_last c.in-Ok.taken c.args.number

pub returns-in-Ok-clause-takes : goal.returns-in-Ok-clause-takes
returns-in-Ok-clause-takes g c =
    takes_line c.args.self.now.world c.run_line.new.world
    c.args.self.now.bad c.ended_by-self.result c.args.number c.args.line.now c.in-Ok.taken
    (g.K.Sink.contents c.args.out.now) (g.K.Sink.contents c.run_line.new.out)
    c.requires c.ended_by-self.ensures c.in-Ok.ensures.ends

-- it could not be
pub returns-in-Err-clause-breaks : goal.returns-in-Err-clause-breaks
returns-in-Err-clause-breaks g c =
    breaks_line c.args.self.now.world c.run_line.new.world
    c.args.self.now.bad c.args.number c.args.line.now c.in-Err.fault
    (g.K.Sink.contents c.args.out.now) (g.K.Sink.contents c.run_line.new.out)
    c.requires c.in-Err.ensures.ends

pub returns-in-Err-clause-fault : goal.returns-in-Err-clause-fault
returns-in-Err-clause-fault g c =
    fault_taken (line_viewed c.args.self.now.world c.args.line.now c.args.number)
    c.args.number c.in-Err.fault c.run_line.new.world
    (g.K.Sink.contents c.args.out.now) (g.K.Sink.contents c.run_line.new.out) c.in-Err.ensures.ends
