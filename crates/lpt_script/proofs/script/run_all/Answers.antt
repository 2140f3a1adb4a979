-- What was printed is passed on, or could not be.
use Rattle.std.proofs.Common.{false, subst}
use Rattle.lpt_script.specs.Ends.{RunEnds}
use Rattle.lpt_script.proofs.RunEnds.{flush_failed, ok_kept}
use Rattle.lpt_script.proofs.script.run_all.Goals as goal

pub returns-in-Err-flush_out-clause-ends : goal.returns-in-Err-flush_out-clause-ends
returns-in-Err-flush_out-clause-ends g c =
    let old = g.S.Source.remaining c.args.reader.now in
    let new = g.S.Source.remaining c.run_lines-ran.new.reader in
    let a = g.K.Sink.contents c.args.out.now in
    let b = g.K.Sink.contents c.run_lines-ran.new.out in
    let failed = g.S.Source.failed c.run_lines-ran.new.reader in
    let wrote = g.K.Sink.failed c.run_lines-ran.new.out in
    flush_failed false c.args.world c.in-Ok.end c.in-Err-flush_out.fault old new a b (g.K.Sink.contents c.flush_out.new.out)
    failed wrote wrote (g.K.Sink.failed c.flush_out.new.out)
    (subst (λ x. RunEnds false c.args.world x old new a b failed wrote) c.in-Ok.is c.run_lines-ran.ensures.ends)
    c.flush_out.ensures.same c.in-Err-flush_out.ensures.fault c.in-Err-flush_out.ensures.writer

pub returns-in-Ok-flush_out-clause-ends : goal.returns-in-Ok-flush_out-clause-ends
returns-in-Ok-flush_out-clause-ends g c =
    let old = g.S.Source.remaining c.args.reader.now in
    let new = g.S.Source.remaining c.run_lines-ran.new.reader in
    let a = g.K.Sink.contents c.args.out.now in
    let b = g.K.Sink.contents c.run_lines-ran.new.out in
    let failed = g.S.Source.failed c.run_lines-ran.new.reader in
    let wrote = g.K.Sink.failed c.run_lines-ran.new.out in
    ok_kept false c.args.world c.in-Ok.end old new a b (g.K.Sink.contents c.flush_out.new.out)
    failed wrote (g.K.Sink.failed c.flush_out.new.out)
    (subst (λ x. RunEnds false c.args.world x old new a b failed wrote) c.in-Ok.is c.run_lines-ran.ensures.ends)
    c.flush_out.ensures.same
