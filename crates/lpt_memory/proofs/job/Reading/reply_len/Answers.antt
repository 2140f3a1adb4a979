-- The reply of memories of that shape is as long as the content says, and fits a packet.
use Rattle.std.proofs.Common.{◌∙◌, ap, sym, subst, Option, IfSome, ℕ, ◌≤◌}
use Rattle.lpt_memory.specs.Effects.{reply_length}
use Rattle.lpt_memory.specs.Meanings.{Meaning, Sizes}
use Rattle.lpt_memory.specs.Ranges.{MeaningFits}
use Rattle.lpt_memory.specs.Readings.{source_meaning}
use Rattle.lpt_memory.specs.Seen.{body_of}
use Rattle.lpt_memory.proofs.AnswerLemmas.{replied-answer, reply-short}
use Rattle.lpt_memory.proofs.MeaningLemmas.{meaning-fits}
use Rattle.lpt_memory.proofs.job.Reading.reply_len.Goals as goal

pub returns-clause-meant : goal.returns-clause-meant
returns-clause-meant c =
    c.reply_len.ensures (body_of c.args.self.now.message) ∙ ap reply_length c.plan.ensures.seen

pub returns-clause-answer : goal.returns-clause-answer
returns-clause-answer c = λ ms same.
    let r = c.args.self.now in
    let fits = subst (λ (s : Sizes). MeaningFits s (source_meaning r)) same
    (meaning-fits r.apid r.sizes r.message) in
    replied-answer (source_meaning r) ms fits ∙ sym (returns-clause-meant c)

pub returns-clause-fits : goal.returns-clause-fits
returns-clause-fits c =
    let r = c.args.self.now in
    let body = body_of r.message in
    let fits = subst (MeaningFits r.sizes) (sym c.plan.ensures.seen)
    (meaning-fits r.apid r.sizes r.message) in
    subst (λ (o : Option ℕ). IfSome o (λ n. n ≤ 65523)) (sym (c.reply_len.ensures body))
    (reply-short c.plan.result.now body r.sizes c.plan.ensures.counted fits)
