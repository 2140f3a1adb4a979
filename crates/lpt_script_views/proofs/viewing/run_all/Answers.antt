-- What was printed is passed on, or could not be.
use Rattle.lpt_script_views.proofs.RunEnds.{flush_failed, ok_kept}
use Rattle.lpt_script_views.proofs.viewing.run_all.Goals as goal

pub returns-in-Err-flush_out-clause-ends : goal.returns-in-Err-flush_out-clause-ends
returns-in-Err-flush_out-clause-ends g c =
    let wrote = g.K.Sink.failed c.run_lines.new.out in
    flush_failed c.args.world c.in-Ok.end c.in-Err-flush_out.fault
    (g.S.Source.remaining c.args.reader.now) (g.S.Source.remaining c.run_lines.new.reader)
    (g.K.Sink.contents c.args.out.now) (g.K.Sink.contents c.run_lines.new.out) (g.K.Sink.contents c.flush_out.new.out)
    (g.S.Source.failed c.run_lines.new.reader) wrote wrote (g.K.Sink.failed c.flush_out.new.out)
    c.in-Ok.ensures.ends
    c.flush_out.ensures.same c.in-Err-flush_out.ensures.fault c.in-Err-flush_out.ensures.writer

pub returns-in-Ok-flush_out-clause-ends : goal.returns-in-Ok-flush_out-clause-ends
returns-in-Ok-flush_out-clause-ends g c =
    ok_kept c.args.world c.in-Ok.end
    (g.S.Source.remaining c.args.reader.now) (g.S.Source.remaining c.run_lines.new.reader)
    (g.K.Sink.contents c.args.out.now) (g.K.Sink.contents c.run_lines.new.out) (g.K.Sink.contents c.flush_out.new.out)
    (g.S.Source.failed c.run_lines.new.reader) (g.K.Sink.failed c.run_lines.new.out) (g.K.Sink.failed c.flush_out.new.out)
    c.in-Ok.ensures.ends
    c.flush_out.ensures.same
