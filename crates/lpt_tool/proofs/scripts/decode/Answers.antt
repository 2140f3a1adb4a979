-- A fault of the decoding is told as the tool's.
use Rattle.std.proofs.Common.{Bool, Err, Ok, ap, refl, subst, sym}
use Rattle.lpt_text.specs.Streams.{WriteEnds}
use Rattle.lpt_tool.specs.Faults.{streams_end}
use Rattle.lpt_tool.proofs.ThreadLemmas.{text_write}
use Rattle.lpt_tool.proofs.scripts.decode.Goals as goal

pub returns-in-Ok-clause-ends : goal.returns-in-Ok-clause-ends
returns-in-Ok-clause-ends g c = (Ok c.in-Ok.faulty, refl, c.in-Ok.ensures.ends)

pub returns-in-Err-clause-ends : goal.returns-in-Err-clause-ends
returns-in-Err-clause-ends g c = (Err c.in-Err.fault, ap Err c.from.ensures, c.in-Err.ensures.ends)

pub returns-in-Err-clause-writer : goal.returns-in-Err-clause-writer
returns-in-Err-clause-writer g c =
    let had = g.K.Sink.failed c.args.out.now in
    let wrote = g.K.Sink.failed c.decode.new.out in
    subst (λ f. WriteEnds (streams_end {A = Bool} (Err f)) had wrote) (sym c.from.ensures)
    (text_write Bool c.in-Err.fault had wrote c.in-Err.ensures.writer)
