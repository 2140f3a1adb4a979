-- What is known of the octets that are held shows an octet astray.
use Rattle.std.proofs.Common.{◌-◌, sym, subst, take, drop}
use Rattle.lpt_stream.specs.Searches.{Knows}
use Rattle.lpt_stream.proofs.AstrayLemmas.{astray_shown}
use Rattle.lpt_stream.proofs.KnownLemmas.{sliced}
use Rattle.lpt_stream.proofs.buffer.PacketBuffer.shows_none.Goals as goal

pub may_fit-requires-clause-knows : goal.may_fit-requires-clause-knows
may_fit-requires-clause-knows c =
    let b = c.args.self.now in
    subst (Knows b.search)
    (sym (sliced b.start b.end b.octets.items c.deref.result.now b.ordered c.deref.ensures.value))
    b.known

pub invariant_of-self-clause-known : goal.invariant_of-self-clause-known
invariant_of-self-clause-known c =
    let b = c.args.self.now in
    subst (Knows c.may_fit.new.self)
    (sliced b.start b.end b.octets.items c.deref.result.now b.ordered c.deref.ensures.value)
    c.may_fit.ensures.knows

pub returns-in-Some-clause-stray : goal.returns-in-Some-clause-stray
returns-in-Some-clause-stray c = λ shown.
    let b = c.args.self.now in
    let h = astray_shown b (take (b.end - b.start) (drop b.start c.deref.result.now))
    c.min.result c.in-Some.len c.may_fit.result
    (sliced b.start b.end b.octets.items c.deref.result.now b.ordered c.deref.ensures.value)
    c.if-self.false c.min.ensures c.in-Some.ensures.within c.in-Some.ensures.len
    c.in-Some.ensures.none c.in-Some.ensures.wrong c.may_fit.ensures.never shown in
    record { some = h.some; least = h.least; most = h.most; within = h.within; is = h.is }
