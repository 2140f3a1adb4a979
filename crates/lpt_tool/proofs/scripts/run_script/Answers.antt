-- A fault of the script is told as the tool's.
use Rattle.std.proofs.Common.{◌≡◌, ◌∙◌, Err, Ok, ap, refl, subst, sym}
use Rattle.std.specs.Bool.{⊤}
use Rattle.lpt_text.specs.Streams.{ReadEnds, WriteEnds}
use Rattle.lpt_script.specs.declared.end.ScriptEnd.{ScriptEnd}
use Rattle.lpt_script.specs.declared.fault.ScriptFault.TheVariants as scripts
use Rattle.lpt_tool.specs.Faults.{of_script, streams_end}
use Rattle.lpt_tool.specs.declared.fault.ToolFault.TheVariants as tool
use Rattle.lpt_tool.proofs.ThreadLemmas.{lines_config, lines_read, lines_write}
use Rattle.lpt_tool.proofs.scripts.run_script.Goals as goal

pub returns-in-Ok-clause-ends : goal.returns-in-Ok-clause-ends
returns-in-Ok-clause-ends g c = (Ok c.in-Ok.end, refl, c.in-Ok.ensures.ends)

pub returns-in-Err-clause-ends : goal.returns-in-Err-clause-ends
returns-in-Err-clause-ends g c = (Err c.in-Err.fault, ap Err c.from.ensures, c.in-Err.ensures.ends)

pub returns-in-Err-clause-config : goal.returns-in-Err-clause-config
returns-in-Err-clause-config g c = (
  λ is.
      let told : c.from.result ≡ tool.Config = cc in
      c.in-Err.ensures.config.0 (ap Err (lines_config c.in-Err.fault (sym c.from.ensures ∙ told))),
  λ some.
      let is : c.in-Err.fault ≡ scripts.Config = cc (c.in-Err.ensures.config.1 some) in
      ap Err (c.from.ensures ∙ ap of_script is),
)

pub returns-in-Err-clause-writer : goal.returns-in-Err-clause-writer
returns-in-Err-clause-writer g c =
    let had = g.K.Sink.failed c.args.out.now in
    let wrote = g.K.Sink.failed c.run_script.new.out in
    subst (λ f. WriteEnds (streams_end {A = ScriptEnd} (Err f)) had wrote) (sym c.from.ensures)
    (lines_write ScriptEnd c.in-Err.fault had wrote c.in-Err.ensures.writer)

pub returns-in-Err-clause-reader : goal.returns-in-Err-clause-reader
returns-in-Err-clause-reader g c =
    let had = g.S.Source.failed c.args.reader.now in
    let failed = g.S.Source.failed c.run_script.new.reader in
    subst (λ f. ReadEnds ⊤ (streams_end {A = ScriptEnd} (Err f)) had failed) (sym c.from.ensures)
    (lines_read ScriptEnd c.in-Err.fault had failed c.in-Err.ensures.reader)
