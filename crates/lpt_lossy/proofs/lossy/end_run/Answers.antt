-- All was written where it can't be passed on.
use Rattle.std.specs.List.{concat}
use Rattle.std.proofs.KnownBytes.{Appends-kept}
use Rattle.lpt_text.specs.Streams.{AppendsPart}
use Rattle.lpt_text.proofs.StreamLemmas.{part_whole}
use Rattle.lpt_lossy.specs.TurnsInside.{turn_octets}
use Rattle.lpt_stream.proofs.EndLemmas.{any-err}
use Rattle.lpt_lossy.proofs.lossy.end_run.Goals as goal

pub returns-clause-part : goal.returns-clause-part
returns-clause-part g c =
    let before = g.K.Sink.contents c.args.out.now in
    let after = g.K.Sink.contents c.flush_out.new.out in
    let all = concat (turn_octets c.args.turns.now) in
    any-err (AppendsPart before after all) c.flush_out.result
    (part_whole before after all
    (Appends-kept before (g.K.Sink.contents c.write_all.new.out) after all
    c.in_ok-write_all.ensures.ok c.flush_out.ensures.same))
