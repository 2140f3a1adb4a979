use Rattle.std.proofs.Common.{◌≡◌, ◌∙◌, Err, IfOk, Ok, ap, subst, sym, true}
use Rattle.std.specs.Bool.{⊤}
use Rattle.lpt_text.specs.Streams.{ReadEnds, WriteEnds}
use Rattle.lpt_script.specs.Ends.{LinesLeave, RunEnds, streams_end as lines_end}
use Rattle.lpt_script.specs.Scripts.{is_later, kept_of, left_of}
use Rattle.lpt_tool.specs.Ends.{GoesOn, ThreadsEnds}
use Rattle.lpt_tool.specs.Faults.{streams_end}
use Rattle.lpt_tool.specs.declared.fault.ToolFault.TheVariants as tool
use Rattle.lpt_tool.specs.declared.threads_end.ThreadsEnd.{ThreadsEnd}
use Rattle.lpt_tool.proofs.ThreadLemmas.{goes_read, lines_config, lines_fault, lines_read, lines_then, lines_write}
use Rattle.lpt_tool.proofs.threads.run_all.Goals as goal

-- ---- the lines ended by a fault

pub returns-in-Err-clause-ends : goal.returns-in-Err-clause-ends
returns-in-Err-clause-ends g c =
    let old = g.S.Source.remaining c.args.reader.now in
    let new = g.S.Source.remaining c.run_lines-ran.new.reader in
    let a = g.K.Sink.contents c.args.out.now in
    let b = g.K.Sink.contents c.run_lines-ran.new.out in
    let failed = g.S.Source.failed c.run_lines-ran.new.reader in
    let wrote = g.K.Sink.failed c.run_lines-ran.new.out in
    subst (λ f. ThreadsEnds c.args.turns c.args.world (Err f) old new a b failed wrote)
    (sym c.from.ensures)
    (lines_fault c.args.turns c.args.world c.in-Err.fault old new a b failed wrote
    (subst (λ l. RunEnds l c.args.world (Err c.in-Err.fault) old new a b failed wrote) c.later.ensures.later
    (subst (λ x. RunEnds (is_later c.later.result) c.args.world x old new a b failed wrote) c.in-Err.is
    c.run_lines-ran.ensures.ends)))

pub returns-in-Err-clause-config : goal.returns-in-Err-clause-config
returns-in-Err-clause-config g c = λ is.
    let told : c.from.result ≡ tool.Config = cc in
    c.run_lines-ran.ensures.config
    (c.in-Err.is ∙ ap Err (lines_config c.in-Err.fault (sym c.from.ensures ∙ told)))

pub returns-in-Err-clause-writer : goal.returns-in-Err-clause-writer
returns-in-Err-clause-writer g c =
    let had = g.K.Sink.failed c.args.out.now in
    let wrote = g.K.Sink.failed c.run_lines-ran.new.out in
    subst (λ f. WriteEnds (streams_end {A = ThreadsEnd} (Err f)) had wrote) (sym c.from.ensures)
    (lines_write ThreadsEnd c.in-Err.fault had wrote
    (subst (λ x. WriteEnds (lines_end x) had wrote) c.in-Err.is c.run_lines-ran.ensures.writer))

pub returns-in-Err-clause-reader : goal.returns-in-Err-clause-reader
returns-in-Err-clause-reader g c =
    let had = g.S.Source.failed c.args.reader.now in
    let failed = g.S.Source.failed c.run_lines-ran.new.reader in
    subst (λ f. ReadEnds ⊤ (streams_end {A = ThreadsEnd} (Err f)) had failed) (sym c.from.ensures)
    (lines_read ThreadsEnd c.in-Err.fault had failed
    (subst (λ x. ReadEnds ⊤ (lines_end x) had failed) c.in-Err.is c.run_lines-ran.ensures.reader))

-- ---- the lines are done, and the threads follow

pub returns-in-Ok-clause-ends : goal.returns-in-Ok-clause-ends
returns-in-Ok-clause-ends g c =
    let first = c.args.world in
    let end = c.in-Ok.end in
    let old = g.S.Source.remaining c.args.reader.now in
    let new = g.S.Source.remaining c.run_lines-ran.new.reader in
    let a = g.K.Sink.contents c.args.out.now in
    let b = g.K.Sink.contents c.run_lines-ran.new.out in
    let d = g.K.Sink.contents c.go_on.new.out in
    let failed = g.S.Source.failed c.run_lines-ran.new.reader in
    let wrote = g.K.Sink.failed c.run_lines-ran.new.out in
    let more = g.K.Sink.failed c.go_on.new.out in
    let left = left_of c.run_lines-ran.result.1 (kept_of c.run_lines-ran.result.2) in
    lines_then c.args.turns left first end c.go_on.result old new a b d failed wrote more
    (subst (λ k. LinesLeave true k first end left old new a b) c.later.ensures.none
    (subst (λ l. LinesLeave l (kept_of c.later.result) first end left old new a b) c.later.ensures.later
    (subst (λ x. IfOk x (λ e. LinesLeave (is_later c.later.result) (kept_of c.later.result) first e left old new a b))
    c.in-Ok.is c.run_lines-ran.ensures.left)))
    (subst (λ l. RunEnds l first (Ok end) old new a b failed wrote) c.later.ensures.later
    (subst (λ x. RunEnds (is_later c.later.result) first x old new a b failed wrote) c.in-Ok.is c.run_lines-ran.ensures.ends))
    (subst (λ k. GoesOn c.args.turns (left_of c.run_lines-ran.result.1 k) end.refused c.go_on.result b d more)
    c.into_kept-kept.ensures c.go_on.ensures.ends)

pub returns-in-Ok-clause-config : goal.returns-in-Ok-clause-config
returns-in-Ok-clause-config g c = λ is.
    subst (λ r. GoesOn c.args.turns (left_of c.run_lines-ran.result.1 c.into_kept-kept.result.items) c.in-Ok.end.refused r
    (g.K.Sink.contents c.run_lines-ran.new.out) (g.K.Sink.contents c.go_on.new.out)
    (g.K.Sink.failed c.go_on.new.out))
    is c.go_on.ensures.ends

pub returns-in-Ok-clause-writer : goal.returns-in-Ok-clause-writer
returns-in-Ok-clause-writer g c =
    let had = g.K.Sink.failed c.args.out.now in
    let wrote = g.K.Sink.failed c.run_lines-ran.new.out in
    let same : wrote ≡ had =
    subst (λ x. WriteEnds (lines_end x) had wrote) c.in-Ok.is c.run_lines-ran.ensures.writer in
    subst (λ f. WriteEnds (streams_end c.go_on.result) f (g.K.Sink.failed c.go_on.new.out)) same c.go_on.ensures.writer

pub returns-in-Ok-clause-reader : goal.returns-in-Ok-clause-reader
returns-in-Ok-clause-reader g c =
    let had = g.S.Source.failed c.args.reader.now in
    let failed = g.S.Source.failed c.run_lines-ran.new.reader in
    goes_read c.args.turns
    (left_of c.run_lines-ran.result.1 c.into_kept-kept.result.items) c.in-Ok.end.refused c.go_on.result
    (g.K.Sink.contents c.run_lines-ran.new.out) (g.K.Sink.contents c.go_on.new.out)
    (g.K.Sink.failed c.go_on.new.out) had failed
    c.go_on.ensures.ends
    (subst (λ x. ReadEnds ⊤ (lines_end x) had failed) c.in-Ok.is c.run_lines-ran.ensures.reader)
