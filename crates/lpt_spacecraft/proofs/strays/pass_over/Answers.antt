-- Octet after octet, until none is astray.
use Rattle.std.proofs.Common.{◌≡◌, ◌∙◌, ◌<◌, ◌≤◌, refl, subst, sym, true, false, Ok, arith}
use Rattle.std.proofs.KnownBytes.{Keeps-refl, Keeps-trans}
use Rattle.std.proofs.lemmas.Result.{err_from_is_err_and}
use Rattle.lpt_stream.proofs.EndLemmas.{writer-after}
use Rattle.lpt_spacecraft.specs.Fronts.{finds_stray}
use Rattle.lpt_spacecraft.proofs.SearchLemmas.{search-piece}
use Rattle.lpt_spacecraft.proofs.StrayLemmas.{passes-end, passes-endless, passes-fault, passes-first, passes-next, reader-found, some-there}
use Rattle.lpt_spacecraft.proofs.strays.pass_over.Goals as goal

pub skip-requires : goal.skip-requires
skip-requires g c = c.requires.front.within

pub loop-len-init : goal.loop-len-init
loop-len-init g c = record {
  passes = passes-first c.args.buffer.now c.skip.new.self c.args.found
      (g.P.Peer.remaining c.args.peer.now) c.requires.front c.requires.stray c.skip.ensures.held
      c.skip.ensures.cut c.skip.ensures.step c.skip.ensures.end;
  reader = refl;
  same = Keeps-refl (g.K.Sink.contents c.args.out.now);
  writer = refl;
}

-- one is
pub skip-requires-in-loop-len : goal.skip-requires-in-loop-len
skip-requires-in-loop-len g c =
    some-there c.in_ok-next.next _ _ _ _ _ _ c.in_ok-next.ensures.finds
    (sym c.finds_stray.ensures ∙ c.if-not-finds_stray.false)

pub loop-len-preserved : goal.loop-len-preserved
loop-len-preserved g c = record {
  passes = passes-next c.args.buffer.now c.loop-len.buffer c.find_piece_passing.new.self
      c.skip-in-loop-len.new.self c.in_ok-next.next c.loop-len.len _ _ _ _ _
      c.loop-len.invariant.passes c.in_ok-next.ensures.finds
      (sym c.finds_stray.ensures ∙ c.if-not-finds_stray.false) c.skip-in-loop-len.ensures.held
      c.skip-in-loop-len.ensures.cut c.skip-in-loop-len.ensures.step
      c.skip-in-loop-len.ensures.end;
  reader = reader-found c.in_ok-next.next _ _ _ _ _ _ c.in_ok-next.ensures.finds
      ∙ c.loop-len.invariant.reader;
  same = Keeps-trans (g.K.Sink.contents c.args.out.now) (g.K.Sink.contents c.loop-len.out)
      (g.K.Sink.contents c.find_piece_passing.new.out) c.loop-len.invariant.same
      c.in_ok-next.ensures.same;
  writer = c.in_ok-next.ensures.writer ∙ c.loop-len.invariant.writer;
}

-- none is
pub returns-then-not-finds_stray-clause-passes : goal.returns-then-not-finds_stray-clause-passes
returns-then-not-finds_stray-clause-passes g c =
    passes-end c.args.passing c.args.buffer.now c.loop-len.buffer c.find_piece_passing.new.self
    c.in_ok-next.next c.loop-len.len _ _ _ _ _ _ c.loop-len.invariant.passes c.requires.cut
    (omega (arith, c.loop-len.auto.len)) c.loop-len.invariant.reader
    c.in_ok-next.ensures.finds (sym c.finds_stray.ensures ∙ c.if-not-finds_stray.true)

pub returns-then-not-finds_stray-clause-same : goal.returns-then-not-finds_stray-clause-same
returns-then-not-finds_stray-clause-same g c =
    Keeps-trans (g.K.Sink.contents c.args.out.now) (g.K.Sink.contents c.loop-len.out)
    (g.K.Sink.contents c.find_piece_passing.new.out) c.loop-len.invariant.same
    c.in_ok-next.ensures.same

pub returns-then-not-finds_stray-clause-writer : goal.returns-then-not-finds_stray-clause-writer
returns-then-not-finds_stray-clause-writer g c =
    c.in_ok-next.ensures.writer ∙ c.loop-len.invariant.writer

-- a read or a write failed, or octets were lost
pub returns-in_err-next-clause-passes : goal.returns-in_err-next-clause-passes
returns-in_err-next-clause-passes g c =
    let p = err_from_is_err_and c.from_residual.result c.from_residual.ensures.1 in
    rw (p.1, p.2)
    (passes-fault c.in_err-next.field-0.0 c.args.buffer.now c.loop-len.buffer c.loop-len.len _ _
    _ _ _ _ c.loop-len.invariant.passes c.loop-len.invariant.reader
    (search-piece c.in_err-next.field-0.0 _ _ _ _ _ _ c.in_err-next.ensures.finds))

pub returns-in_err-next-clause-same : goal.returns-in_err-next-clause-same
returns-in_err-next-clause-same g c =
    Keeps-trans (g.K.Sink.contents c.args.out.now) (g.K.Sink.contents c.loop-len.out)
    (g.K.Sink.contents c.find_piece_passing.new.out) c.loop-len.invariant.same
    c.in_err-next.ensures.same

pub returns-in_err-next-clause-writer : goal.returns-in_err-next-clause-writer
returns-in_err-next-clause-writer g c =
    let p = err_from_is_err_and c.from_residual.result c.from_residual.ensures.1 in
    rw (p.1, p.2)
    (writer-after c.in_err-next.field-0.0 _ _ _ c.in_err-next.ensures.writer
    c.loop-len.invariant.writer)

-- so many were passed over
pub returns-clause-passes : goal.returns-clause-passes
returns-clause-passes g c =
    let most : c.loop-len.len ≡ 18446744073709551615 =
    grind (arith, c.loop-len.auto.len-end, c.loop-len-test.false) in
    passes-endless c.args.buffer.now c.loop-len.buffer c.loop-len.len _ _
    (g.P.Peer.failed c.args.peer.now) (g.P.Peer.failed c.loop-len.peer)
    c.loop-len.invariant.passes most
