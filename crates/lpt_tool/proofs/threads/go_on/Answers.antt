use Rattle.std.proofs.Common.{◌≡◌, ◌∙◌, ◌⊎◌, ◌++◌, Err, IfErr, ap, inl, subst, sym}
use Rattle.lpt_text.specs.Streams.{WriteEnds}
use Rattle.lpt_text.specs.declared.fault.StreamFault.TheVariants as streams
use Rattle.lpt_script.specs.Scripts.{left_of}
use Rattle.lpt_tool.specs.Ends.{GoesOn, shown_text}
use Rattle.std.specs.Io.KnownBytes.{Appends}
use Rattle.lpt_tool.specs.Faults.{streams_end}
use Rattle.lpt_tool.specs.Full.{full_seats}
use Rattle.lpt_tool.specs.declared.threads_end.ThreadsEnd.{ThreadsEnd}
use Rattle.lpt_tool.proofs.ThreadLemmas.{grown_kept, shown_fault, shown_passed, text_write}
use Rattle.lpt_tool.proofs.threads.go_on.Goals as goal

-- no memory for the seats that reached their limit
pub returns-in-Ok-flush_out-clause-ends : goal.returns-in-Ok-flush_out-clause-ends
returns-in-Ok-flush_out-clause-ends g c =
    let written = g.K.Sink.contents in
    grown_kept (written c.args.out.now) (written c.show_left-shown.new.out)
    (written c.flush_out.new.out)
    c.show_left-shown.ensures.grows c.flush_out.ensures.same

-- what was printed could not be passed on
pub returns-in-Ok-shown-clause-ends : goal.returns-in-Ok-shown-clause-ends
returns-in-Ok-shown-clause-ends g c =
    let written = g.K.Sink.contents in
    let left = left_of c.args.world c.args.kept.items in
    let wrote = g.K.Sink.failed c.show_left-shown.new.out in
    let more = g.K.Sink.failed c.flush_out.new.out in
    subst (λ f. GoesOn c.args.turns left c.args.refused (Err f) (written c.args.out.now) (written c.flush_out.new.out) more)
    (sym c.from.ensures)
    (shown_fault c.args.turns left c.args.refused c.in-Err-flush_out.fault (written c.args.out.now)
    (written c.flush_out.new.out) wrote more
    (grown_kept (written c.args.out.now) (written c.show_left-shown.new.out)
    (written c.flush_out.new.out)
    c.show_left-shown.ensures.grows c.flush_out.ensures.same)
    (inl c.in-Err-flush_out.ensures.fault) c.in-Err-flush_out.ensures.writer)

pub returns-in-Ok-shown-clause-writer : goal.returns-in-Ok-shown-clause-writer
returns-in-Ok-shown-clause-writer g c =
    let had = g.K.Sink.failed c.args.out.now in
    let wrote = g.K.Sink.failed c.show_left-shown.new.out in
    let more = g.K.Sink.failed c.flush_out.new.out in
    let same : wrote ≡ had =
    subst (λ r. WriteEnds r had wrote) c.in-Ok-shown.is c.show_left-shown.ensures.writer in
    subst (λ x. WriteEnds (streams_end {A = ThreadsEnd} (Err c.from.result)) x more) same
    (subst (λ f. WriteEnds (streams_end {A = ThreadsEnd} (Err f)) wrote more) (sym c.from.ensures)
    (text_write ThreadsEnd c.in-Err-flush_out.fault wrote more c.in-Err-flush_out.ensures.writer))

-- it could not be printed
pub returns-in-Ok-clause-ends : goal.returns-in-Ok-clause-ends
returns-in-Ok-clause-ends g c =
    let written = g.K.Sink.contents in
    let left = left_of c.args.world c.args.kept.items in
    let had = g.K.Sink.failed c.args.out.now in
    let wrote = g.K.Sink.failed c.show_left-shown.new.out in
    subst (λ f. GoesOn c.args.turns left c.args.refused (Err f) (written c.args.out.now) (written c.show_left-shown.new.out) wrote)
    (sym c.from-in-Err-shown.ensures)
    (shown_fault c.args.turns left c.args.refused c.in-Err-shown.fault (written c.args.out.now)
    (written c.show_left-shown.new.out) had wrote
    c.show_left-shown.ensures.grows
    (subst (λ r. IfErr r (λ e. (e ≡ streams.Write) ⊎ (e ≡ streams.Memory))) c.in-Err-shown.is c.show_left-shown.ensures.only)
    (subst (λ r. WriteEnds r had wrote) c.in-Err-shown.is c.show_left-shown.ensures.writer))

pub returns-in-Ok-clause-writer : goal.returns-in-Ok-clause-writer
returns-in-Ok-clause-writer g c =
    let had = g.K.Sink.failed c.args.out.now in
    let wrote = g.K.Sink.failed c.show_left-shown.new.out in
    subst (λ f. WriteEnds (streams_end {A = ThreadsEnd} (Err f)) had wrote)
    (sym c.from-in-Err-shown.ensures)
    (text_write ThreadsEnd c.in-Err-shown.fault had wrote
    (subst (λ r. WriteEnds r had wrote) c.in-Err-shown.is c.show_left-shown.ensures.writer))

-- all of it was printed and passed on
pub returns-in-Ok-full-clause-ends : goal.returns-in-Ok-full-clause-ends
returns-in-Ok-full-clause-ends g c =
    let written = g.K.Sink.contents in
    let p = c.in-Ok-shown.ensures.all in
    shown_passed c.args.turns (left_of c.args.world c.args.kept.items)
    (record { refused = c.args.refused; full = c.in-Ok-full.full }) c.in-Ok.world
    (written c.args.out.now) (written c.show_left-shown.new.out) (written c.flush_out.new.out)
    (g.K.Sink.failed c.flush_out.new.out)
    (c.in-Ok-full.ensures ∙ ap (full_seats c.args.turns.per_seat) c.journal.ensures.shown)
    c.in-Ok.ensures (
      p.0,
      p.1,
      subst (λ ks. Appends (written c.args.out.now) (written c.show_left-shown.new.out)
          (p.0 ++ shown_text ks c.in-Ok.world)) c.as_slice.ensures.value p.2,
    )
    c.flush_out.ensures.same
