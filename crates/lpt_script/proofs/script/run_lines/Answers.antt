use Rattle.std.proofs.Common.{◌≢◌, Err, IfOk, None, refl, sym, subst}
use Rattle.std.specs.Bool.{⊤}
use Rattle.lpt_text.specs.Streams.{ReadEnds, WriteEnds}
use Rattle.lpt_script.specs.Ends.{LinesLeave, RunEnds, streams_end}
use Rattle.lpt_script.specs.Scripts.{is_later, kept_of, left_of}
use Rattle.lpt_script.specs.declared.fault.ScriptFault.TheVariants as scripts
use Rattle.lpt_script.specs.declared.running.Running.{Running}
use Rattle.lpt_script.proofs.RunEnds.{no_config, script_ends, script_leaves, script_reads, script_writes}
use Rattle.lpt_script.proofs.script.run_lines.Goals as goal

pub returns-clause-ends : goal.returns-clause-ends
returns-clause-ends g c =
    let r : Running = record { alloc = c.args.alloc; text = c.new.result; world = c.args.world; shows = c.args.shows; bad = None } in
    let t = c.each_line-taken.new.taker in
    let old = g.S.Source.remaining c.args.reader.now in
    let new = g.S.Source.remaining c.each_line-taken.new.source in
    let a = g.K.Sink.contents c.args.out.now in
    let b = g.K.Sink.contents c.each_line-taken.new.out in
    let failed = g.S.Source.failed c.each_line-taken.new.source in
    let had = g.K.Sink.failed c.args.out.now in
    let wrote = g.K.Sink.failed c.each_line-taken.new.out in
    subst (λ x. RunEnds (is_later c.args.shows) c.args.world x old new a b failed wrote) (sym c.script_end.ensures)
    (script_ends r t t.bad c.each_line-taken.result old new a b failed had wrote
    refl refl c.each_line-taken.ensures.ends c.each_line-taken.ensures.writer)

pub returns-clause-left : goal.returns-clause-left
returns-clause-left g c =
    let r : Running = record { alloc = c.args.alloc; text = c.new.result; world = c.args.world; shows = c.args.shows; bad = None } in
    let t = c.each_line-taken.new.taker in
    let old = g.S.Source.remaining c.args.reader.now in
    let new = g.S.Source.remaining c.each_line-taken.new.source in
    let a = g.K.Sink.contents c.args.out.now in
    let b = g.K.Sink.contents c.each_line-taken.new.out in
    subst (λ x. IfOk x (λ end. LinesLeave (is_later c.args.shows) (kept_of c.args.shows) c.args.world end
    (left_of t.world (kept_of t.shows)) old new a b)) (sym c.script_end.ensures)
    (script_leaves r t t.bad c.each_line-taken.result old new a b (g.S.Source.failed c.each_line-taken.new.source)
    refl refl c.each_line-taken.ensures.ends)

pub returns-clause-config : goal.returns-clause-config
returns-clause-config g c =
    subst (λ x. x ≢ Err scripts.Config) (sym c.script_end.ensures)
    (no_config c.each_line-taken.new.taker.bad c.each_line-taken.result)

pub returns-clause-writer : goal.returns-clause-writer
returns-clause-writer g c =
    let had = g.K.Sink.failed c.args.out.now in
    let wrote = g.K.Sink.failed c.each_line-taken.new.out in
    subst (λ x. WriteEnds (streams_end x) had wrote) (sym c.script_end.ensures)
    (script_writes c.each_line-taken.new.taker.bad c.each_line-taken.result had wrote c.each_line-taken.ensures.writer)

pub returns-clause-reader : goal.returns-clause-reader
returns-clause-reader g c =
    let had = g.S.Source.failed c.args.reader.now in
    let failed = g.S.Source.failed c.each_line-taken.new.source in
    subst (λ x. ReadEnds ⊤ (streams_end x) had failed) (sym c.script_end.ensures)
    (script_reads c.each_line-taken.new.taker.bad c.each_line-taken.result had failed c.each_line-taken.ensures.reader)
