-- What is handed on is the changed copy. Where there is no memory for it, nothing is.
use Rattle.std.proofs.Common.{◌≡◌, ◌∙◌, ap, sym, subst, List, ℕ}
use Rattle.std.proofs.lemmas.Result.{IfErr-weaker}
use Rattle.lpt_text.specs.Streams.{AppendsPart}
use Rattle.lpt_text.proofs.StreamLemmas.{part_unchanged}
use Rattle.lpt_lossy.specs.Bursts.{with_burst}
use Rattle.lpt_lossy.specs.TurnsInside.{handed_now}
use Rattle.lpt_stream.proofs.EndLemmas.{any-err}
use Rattle.lpt_lossy.proofs.carrying.hand_on_changed.Goals as goal

pub returns-in_err-changed-in-Some-clause-part : goal.returns-in_err-changed-in-Some-clause-part
returns-in_err-changed-in-Some-clause-part g c =
    let w = c.args.way.now in
    let before = g.K.Sink.contents c.args.out.now in
    let all = handed_now w (with_burst w.burst c.args.octets.now) in
    any-err (AppendsPart before before all) c.from_residual.result (part_unchanged before all)

pub returns-in_ok-changed-in-Some-clause-part : goal.returns-in_ok-changed-in-Some-clause-part
returns-in_ok-changed-in-Some-clause-part g c =
    let w = c.args.way.now in
    let before = g.K.Sink.contents c.args.out.now in
    let after = g.K.Sink.contents c.hand_on.new.out in
    let same : c.as_slice.result.now ≡ with_burst w.burst c.args.octets.now =
    c.as_slice.ensures.same ∙ c.in_ok-changed-in-Some.ensures
    ∙ ap (λ u. with_burst u c.args.octets.now) (sym c.in-Some.is) in
    IfErr-weaker c.hand_on.result (λ _. AppendsPart before after
    (handed_now w c.as_slice.result.now))
    (λ _. AppendsPart before after (handed_now w (with_burst w.burst c.args.octets.now)))
    (λ e part. subst (λ (o : List ℕ). AppendsPart before after (handed_now w o)) same part)
    c.hand_on.ensures.part
