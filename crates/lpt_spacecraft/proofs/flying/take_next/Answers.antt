-- A packet, and the tick behind it.
use Rattle.std.proofs.Common.{◌≡◌, ◌+◌, ◌==◌, true, ap, subst, arith}
use Rattle.std.proofs.lemmas.Bool.Decides.{nat_tests}
use Rattle.lpt_events.specs.declared.config.Config.{Config}
use Rattle.lpt_stream.specs.Streams.{all_octets}
use Rattle.lpt_text.specs.Streams.{AppendsPart}
use Rattle.lpt_spacecraft.specs.Serving.{beaten}
use Rattle.lpt_spacecraft.specs.Streams.{flight_of, onboard}
use Rattle.lpt_spacecraft.specs.declared.pace.Pace.{Pace}
use Rattle.lpt_spacecraft.proofs.FoldLemmas.{packet-breaks, tick-breaks}
use Rattle.lpt_spacecraft.proofs.flying.take_next.Goals as goal

-- work broke off in the packet
pub returns-in-Err-clause-breaks : goal.returns-in-Err-clause-breaks
returns-in-Err-clause-breaks g c =
    let s = c.args.craft.now in
    let q = c.args.course.now in
    packet-breaks s.config (flight_of s q) c.args.octets.now q.pace.every q.since _ _ _
    c.in-Err.ensures.breaks

-- or in the tick
pub returns-in-Err-tick_one-clause-breaks : goal.returns-in-Err-tick_one-clause-breaks
returns-in-Err-tick_one-clause-breaks g c =
    let s = c.args.craft.now in
    let q = c.args.course.now in
    let every : c.take_one.new.course.pace.every ≡ q.pace.every =
    ap (λ (p : Pace). p.every) c.in-Ok.ensures.pace in
    let since : c.take_one.new.course.since ≡ q.since = c.in-Ok.ensures.since in
    let due : (q.since + 1 == q.pace.every) ≡ true = grind
    (arith, nat_tests, c.if-course.false, every, since) in
    tick-breaks s.config (flight_of s q) c.take_one.new.craft c.take_one.new.course
    c.args.octets.now q.pace.every q.since c.tick_one.new.craft.memories
    (g.K.Sink.contents c.args.out.now) (g.K.Sink.contents c.take_one.new.out)
    (g.K.Sink.contents c.tick_one.new.out) _ _ due c.in-Ok.ensures.ok
    c.in-Err-tick_one.ensures.memories
    (subst (λ (k : Config). AppendsPart (g.K.Sink.contents c.take_one.new.out)
    (g.K.Sink.contents c.tick_one.new.out)
    (all_octets (beaten k (onboard c.take_one.new.craft)).1)) c.in-Ok.ensures.config
    c.in-Err-tick_one.ensures.part)
