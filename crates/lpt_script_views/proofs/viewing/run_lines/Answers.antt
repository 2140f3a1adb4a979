use Rattle.std.proofs.Common.{◌≢◌, Err, None, refl, sym, subst}
use Rattle.std.specs.Bool.{⊤}
use Rattle.lpt_text.specs.Streams.{ReadEnds, WriteEnds}
use Rattle.lpt_script.specs.Ends.{streams_end}
use Rattle.lpt_script.specs.declared.fault.ScriptFault.TheVariants as scripts
use Rattle.lpt_script.proofs.RunEnds.{no_config, script_reads, script_writes}
use Rattle.lpt_script_views.proofs.RunEnds.{script_ends}
use Rattle.lpt_script_views.specs.Viewing.{ViewsEnd}
use Rattle.lpt_script_views.specs.declared.viewing.Viewing.{Viewing}
use Rattle.lpt_script_views.proofs.viewing.run_lines.Goals as goal

pub returns-clause-ends : goal.returns-clause-ends
returns-clause-ends g c =
    let r : Viewing = record { alloc = c.args.alloc; world = c.args.world; bad = None } in
    let t = c.each_line-taken.new.taker in
    let old = g.S.Source.remaining c.args.reader.now in
    let new = g.S.Source.remaining c.each_line-taken.new.source in
    let a = g.K.Sink.contents c.args.out.now in
    let b = g.K.Sink.contents c.each_line-taken.new.out in
    let failed = g.S.Source.failed c.each_line-taken.new.source in
    let had = g.K.Sink.failed c.args.out.now in
    let wrote = g.K.Sink.failed c.each_line-taken.new.out in
    subst (λ x. ViewsEnd c.args.world x old new a b failed wrote) (sym c.script_end.ensures)
    (script_ends r t t.bad c.each_line-taken.result old new a b failed had wrote
    refl refl c.each_line-taken.ensures.ends c.each_line-taken.ensures.writer)

pub returns-clause-config : goal.returns-clause-config
returns-clause-config g c =
    subst (λ x. x ≢ Err scripts.Config) (sym c.script_end.ensures)
    (no_config c.each_line-taken.new.taker.bad c.each_line-taken.result)

pub returns-clause-writer : goal.returns-clause-writer
returns-clause-writer g c =
    let had = g.K.Sink.failed c.args.out.now in
    let wrote = g.K.Sink.failed c.each_line-taken.new.out in
    subst (λ x. WriteEnds (streams_end x) had wrote) (sym c.script_end.ensures)
    (script_writes c.each_line-taken.new.taker.bad c.each_line-taken.result had wrote c.each_line-taken.ensures.writer)

pub returns-clause-reader : goal.returns-clause-reader
returns-clause-reader g c =
    let had = g.S.Source.failed c.args.reader.now in
    let failed = g.S.Source.failed c.each_line-taken.new.source in
    subst (λ x. ReadEnds ⊤ (streams_end x) had failed) (sym c.script_end.ensures)
    (script_reads c.each_line-taken.new.taker.bad c.each_line-taken.result had failed c.each_line-taken.ensures.reader)
