-- A write failed, or memory ran out, behind the stream's end.
use Rattle.lpt_layout_join.proofs.WriteLemmas.{join-leaves}
use Rattle.lpt_layout_join.proofs.writing.join_as.Goals as goal

pub returns-in-Err-write_chosen-clause-leaves : goal.returns-in-Err-write_chosen-clause-leaves
returns-in-Err-write_chosen-clause-leaves g c =
    join-leaves c.args.wanted.now c.args.any c.in-Err-write_chosen.fault
    (g.S.Source.remaining c.args.source.now) (g.S.Source.remaining c.gather_stream.new.source)
    (g.K.Sink.contents c.args.out.now) (g.K.Sink.contents c.write_chosen.new.out)
    _ c.in-Ok.gathered.0 c.in-Ok.ensures.gathered c.in-Err-write_chosen.ensures.leaves
