-- What holds of the plan's answer holds of what the message means.
use Rattle.std.proofs.Common.{◌≡◌, ◌∙◌, ap, sym, subst, ℕ, ◌≤◌, List, length, Option, IfSome}
use Rattle.std.specs.Prelude.{IfOk, IsOk, Result, Ok, Err}
use Rattle.lpt_memory.specs.declared.effect.Effect.{Effect}
use Rattle.lpt_memory.specs.Effects.{AnswerFits, HasNoReply, answer, reply_length}
use Rattle.lpt_memory.specs.Given.{answer_of, octets_read, read_length}
use Rattle.lpt_memory.specs.Meanings.{Meaning, Sizes}
use Rattle.lpt_memory.specs.Memories.{Contents, sizes_of}
use Rattle.lpt_memory.specs.Ranges.{MeaningFits}
use Rattle.lpt_memory.specs.Readings.{source_meaning}
use Rattle.lpt_memory.specs.Seen.{body_of, plan_meaning}
use Rattle.lpt_memory.proofs.AnswerLemmas.{reply-short}
use Rattle.lpt_memory.proofs.GivenLemmas.{answer_of-held, given-fits, read_length-any}
use Rattle.lpt_memory.proofs.MeaningLemmas.{meaning-fits}
use Rattle.lpt_memory.proofs.job.Reading.answer_of.Goals as goal

if_ok_by : {A E : Type 0} (x : Result A E) (P Q : A → Type 0)
    → ((a : A) → P a → Q a)
    → IfOk x P
    → IfOk x Q
if_ok_by (Ok a) P Q f p = f a p
if_ok_by (Err e) P Q f p = tt

pub answer_of-requires-clause-whole : goal.answer_of-requires-clause-whole
answer_of-requires-clause-whole c = λ body.
    let own = body_of c.args.self.now.message in
    c.requires ∙ ap read_length (sym c.plan.ensures.seen)
    ∙ read_length-any c.plan.result.now own body

pub returns-clause-answer : goal.returns-clause-answer
returns-clause-answer c =
    subst (λ (m : Meaning). IfOk c.answer_of.result (λ e. e ≡ answer_of m c.args.octets.now))
    c.plan.ensures.seen (c.answer_of.ensures.answer (body_of c.args.self.now.message))

pub returns-clause-fits : goal.returns-clause-fits
returns-clause-fits c =
    let r = c.args.self.now in
    let own = body_of r.message in
    let fits = meaning-fits r.apid r.sizes r.message in
    let short = subst (λ (m : Meaning). IfSome (reply_length m) (λ n. n ≤ 65523)) c.plan.ensures.seen
    (reply-short c.plan.result.now own r.sizes c.plan.ensures.counted
    (subst (MeaningFits r.sizes) (sym c.plan.ensures.seen) fits)) in
    if_ok_by c.answer_of.result (λ (e : Effect). e ≡ answer_of (source_meaning r) c.args.octets.now)
    AnswerFits
    (λ e is. subst AnswerFits (sym is)
    (given-fits (source_meaning r) c.args.octets.now r.sizes fits short c.requires))
    (returns-clause-answer c)

pub returns-clause-over : goal.returns-clause-over
returns-clause-over c = λ ms same held.
    let r = c.args.self.now in
    let fits = subst (λ (s : Sizes). MeaningFits s (source_meaning r)) same
    (meaning-fits r.apid r.sizes r.message) in
    subst (λ (a : Effect). IfOk c.answer_of.result (λ e. e ≡ a))
    (ap (answer_of (source_meaning r)) (sym held) ∙ answer_of-held (source_meaning r) ms fits)
    (returns-clause-answer c)

pub returns-clause-no_reply : goal.returns-clause-no_reply
returns-clause-no_reply c = λ none.
    c.answer_of.ensures.no_reply (body_of c.args.self.now.message)
    (subst HasNoReply (sym c.plan.ensures.seen) none)
