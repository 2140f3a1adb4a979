-- A reply is refused by its length, and what has none is not refused.
use Rattle.std.proofs.Common.{◌∙◌, sym}
use Rattle.lpt_memory.specs.Effects.{answer}
use Rattle.lpt_memory.specs.Given.{answer_of}
use Rattle.lpt_memory.specs.Readings.{source_meaning}
use Rattle.lpt_memory.proofs.GivenLemmas.{replied-given}
use Rattle.lpt_execution.proofs.EndingLemmas.{refusal-replied, refusal-none}
use Rattle.lpt_execution.proofs.executing.reply_refusal.Goals as goal

pub returns-in-Some-clause-held : goal.returns-in-Some-clause-held
returns-in-Some-clause-held c = λ ms same.
    c.reply_fault.ensures
    ∙ refusal-replied c.args.p c.args.free c.args.room
    (answer (source_meaning c.args.reading.now) ms)
    c.in-Some.length (c.in-Some.ensures.answer ms same)

pub returns-in-Some-clause-given : goal.returns-in-Some-clause-given
returns-in-Some-clause-given c = λ octets whole.
    c.reply_fault.ensures
    ∙ refusal-replied c.args.p c.args.free c.args.room
    (answer_of (source_meaning c.args.reading.now) octets)
    c.in-Some.length
    (replied-given (source_meaning c.args.reading.now) octets whole ∙ sym c.in-Some.ensures.meant)

pub returns-in-None-clause-held : goal.returns-in-None-clause-held
returns-in-None-clause-held c = λ ms same.
    refusal-none c.args.p c.args.free c.args.room (answer (source_meaning c.args.reading.now) ms)
    (c.in-None.ensures.answer ms same)

pub returns-in-None-clause-given : goal.returns-in-None-clause-given
returns-in-None-clause-given c = λ octets whole.
    refusal-none c.args.p c.args.free c.args.room
    (answer_of (source_meaning c.args.reading.now) octets)
    (replied-given (source_meaning c.args.reading.now) octets whole ∙ sym c.in-None.ensures.meant)
