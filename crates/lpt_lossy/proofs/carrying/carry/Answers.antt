-- What is handed on, and then what is held for this turn.
use Rattle.std.proofs.Common.{◌≡◌, ◌∙◌, ap, subst, List, ℕ, length, arith}
use Rattle.std.proofs.lemmas.Result.{IfErr-weaker}
use Rattle.lpt_text.specs.Streams.{AppendsPart}
use Rattle.lpt_text.proofs.StreamLemmas.{part_after, part_of_front}
use Rattle.lpt_lossy.specs.Bursts.{with_burst}
use Rattle.lpt_lossy.specs.TurnsInside.{carried_now, first_octets, handed_now, handed_turns, turn_octets}
use Rattle.lpt_stream.proofs.EndLemmas.{any-err}
use Rattle.lpt_lossy.proofs.PartLemmas.{length-handed}
use Rattle.lpt_lossy.proofs.carrying.carry.Goals as goal

pub returns-in_err-hand_on_changed-clause-part : goal.returns-in_err-hand_on_changed-clause-part
returns-in_err-hand_on_changed-clause-part g c =
    let w = c.args.way.now in
    let q = with_burst w.burst c.args.octets.now in
    let os = turn_octets c.args.turns.now in
    let before = g.K.Sink.contents c.args.out.now in
    let after = g.K.Sink.contents c.hand_on_changed.new.out in
    any-err (AppendsPart before after (carried_now w c.args.octets.now os)) c.from_residual.result
    (part_of_front before after (handed_now w q) (first_octets (handed_turns w q os))
    c.in_err-hand_on_changed.ensures.part)

pub pass-requires : goal.pass-requires
pass-requires g c =
    let w = c.args.way.now in
    let q = with_burst w.burst c.args.octets.now in
    let os = turn_octets c.args.turns.now in
    let left : length (turn_octets c.hand_on_changed.new.turns) ≡ length os
    = ap (λ (xs : List (List ℕ)). length xs) c.in_ok-hand_on_changed.ensures.turns
    ∙ length-handed w q os in
    omega (arith, left, c.requires.turn)

pub returns-clause-part : goal.returns-clause-part
returns-clause-part g c =
    let w = c.args.way.now in
    let q = with_burst w.burst c.args.octets.now in
    let os = turn_octets c.args.turns.now in
    let before = g.K.Sink.contents c.args.out.now in
    let mid = g.K.Sink.contents c.hand_on_changed.new.out in
    let after = g.K.Sink.contents c.pass.new.out in
    IfErr-weaker c.pass.result
    (λ _. AppendsPart mid after (first_octets (turn_octets c.hand_on_changed.new.turns)))
    (λ _. AppendsPart before after (carried_now w c.args.octets.now os))
    (λ e part. part_after before mid after (handed_now w q) (first_octets (handed_turns w q os))
    c.in_ok-hand_on_changed.ensures.ok
    (subst (λ (xs : List (List ℕ)). AppendsPart mid after (first_octets xs))
    c.in_ok-hand_on_changed.ensures.turns part))
    c.pass.ensures.part
