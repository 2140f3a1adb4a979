use Rattle.std.proofs.Common.{subst, sym}
use Rattle.lpt_script.specs.RunsInside.{LineTaken}
use Rattle.lpt_script_views.specs.Viewing.{unread_ran}
use Rattle.lpt_script_views.proofs.viewing.run_unread.Goals as goal

-- the line is unreadable
pub returns-in-None-clause-ends : goal.returns-in-None-clause-ends
returns-in-None-clause-ends g c =
    subst (λ asked. LineTaken (unread_ran c.args.world.now c.args.number asked) c.args.number
    c.end_unreadable.result c.args.world.now (g.K.Sink.contents c.args.out.now)
    (g.K.Sink.contents c.end_unreadable.new.out))
    (sym c.in-None.is) (c.end_unreadable.ensures.ends c.args.world.now)
