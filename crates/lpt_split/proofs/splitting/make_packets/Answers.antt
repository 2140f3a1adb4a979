-- Message after message, until none is left.
use Rattle.std.proofs.Common.{◌≤◌, ◌+◌, ◌∙◌, inl, inr, ap, sym, subst, refl, take, ◌++◌, arith}
use Rattle.std.proofs.KnownBytes.{Consumes-trans}
use Rattle.std.proofs.lemmas.Result.{err_from_is_err_and}
use Rattle.lpt_stream.proofs.BufferLemmas.{finds_as, passing-lost}
use Rattle.lpt_stream.proofs.EndLemmas.{passing-reader, reader-after}
use Rattle.lpt_split.specs.declared.one.One.{One}
use Rattle.lpt_split.specs.Shares.{WritesOne}
use Rattle.lpt_split.proofs.StreamLemmas.{IsHere, here-before, here-end, here-front, here-more, here-next, here-none, here-refused}
use Rattle.lpt_split.proofs.splitting.make_packets.Goals as goal

pub loop-buffer-init : goal.loop-buffer-init
loop-buffer-init g c = record {
  here = subst (λ n. IsHere c.args.wanted.now c.new-buffer.result
      (g.S.Source.remaining c.args.source.now) (g.S.Source.remaining c.args.source.now)
      (g.K.Sink.contents c.args.out.now) (g.K.Sink.contents c.args.out.now) n
      c.args.wanted.now.first 0) (sym c.from-next.ensures)
      (here-none c.args.wanted.now c.new-buffer.result (g.S.Source.remaining c.args.source.now)
      (g.K.Sink.contents c.args.out.now) c.new-buffer.ensures.held c.new-buffer.ensures.cut
      c.new-buffer.ensures.step c.new-buffer.ensures.end);
  most = inr c.from-next.ensures;
  count = c.args.wanted.now.counts;
  reader = refl;
}

-- the stream is at its end
pub returns-in_default-clause-makes : goal.returns-in_default-clause-makes
returns-in_default-clause-makes g c =
    let found = finds_as _ _ _ _ _ _ _ _ c.in_default.is c.in_ok-found.ensures.finds in
    here-end c.args.wanted.now _ _ _ _ _ _ _ _
    (here-more c.args.wanted.now _ _ _ _ _ _ _ _ _ _ _ _ c.loop-buffer.invariant.here found.1
    c.in_ok-found.ensures.same)
    c.split_ended.result c.split_ended.ensures found.2 found.3

-- a read failed, or memory ran out
pub returns-in_err-found-clause-makes : goal.returns-in_err-found-clause-makes
returns-in_err-found-clause-makes g c =
    let a = g.S.Source.remaining c.args.source.now in
    let b = g.S.Source.remaining c.loop-buffer.source in
    let d = g.S.Source.remaining c.find_piece_passing.new.source in
    let h = c.loop-buffer.invariant.here in
    let lost = passing-lost c.in_err-found.field-0.0 c.loop-buffer.buffer
    c.find_piece_passing.new.self b d (g.S.Source.failed c.loop-buffer.source)
    (g.S.Source.failed c.find_piece_passing.new.source) c.in_err-found.ensures.finds in
    let p = err_from_is_err_and c.from_residual.result c.from_residual.ensures.1 in
    rw p.1 (h.stream ++ lost.0, Consumes-trans a b d h.stream lost.0 h.consumed lost.1)

pub returns-in_err-found-clause-reader : goal.returns-in_err-found-clause-reader
returns-in_err-found-clause-reader g c =
    let p = err_from_is_err_and c.from_residual.result c.from_residual.ensures.1 in
    rw (p.1, p.2)
    (reader-after ⊥ c.in_err-found.field-0.0 _ _ _
    (passing-reader ⊥ c.in_err-found.field-0.0 _ _ _ _ _ _ c.in_err-found.ensures.finds)
    c.loop-buffer.invariant.reader)

-- it ends before the piece in front
pub returns-in-Some-end_before-clause-makes : goal.returns-in-Some-end_before-clause-makes
returns-in-Some-end_before-clause-makes g c =
    let w = c.args.wanted.now in
    let f = c.in-Some.found in
    let at = here-front c.args.wanted.now c.in-Some.is c.in_ok-found.ensures.finds
    c.loop-buffer.invariant.here c.in_ok-found.ensures.same in
    here-before w _ _ _ _ _ _ _ _ at.0 c.split_ended-in-Some-end_before.result
    c.in-Some-end_before.end f c.octets_held-held.result.now
    c.split_ended-in-Some-end_before.ensures c.octets_held-held.ensures at.1
    c.loop-buffer.invariant.most c.in-Some-end_before.ensures.some

-- the list isn't one of the message's parts
pub returns-in-Ok-Unsplit-clause-makes : goal.returns-in-Ok-Unsplit-clause-makes
returns-in-Ok-Unsplit-clause-makes g c =
    let w = c.args.wanted.now in
    let f = c.in-Some.found in
    let at = here-front c.args.wanted.now c.in-Some.is c.in_ok-found.ensures.finds
    c.loop-buffer.invariant.here c.in_ok-found.ensures.same in
    here-refused w _ _ _ _ _ _ _ _ at.0 c.split_ended-in-Ok-Unsplit.result
    c.in-Ok-Unsplit.end f (take f.len c.octets_held-held.result.now) c.loop-buffer.next
    c.in-Ok-Unsplit.field-0 _ c.split_ended-in-Ok-Unsplit.ensures at.1
    (c.in_default-end_before.ensures.none refl).0 (c.in_default-end_before.ensures.none refl).1
    (c.in_default-end_before.ensures.none refl).2 (ap (take f.len) c.octets_held-held.ensures) refl
    c.in-Ok-Unsplit.field-0-is c.in-Ok-Unsplit.ensures.ok

-- work broke off in a message
pub returns-in-Err-clause-makes : goal.returns-in-Err-clause-makes
returns-in-Err-clause-makes g c =
    let at = here-front c.args.wanted.now c.in-Some.is c.in_ok-found.ensures.finds
    c.loop-buffer.invariant.here c.in_ok-found.ensures.same in
    (at.0.stream, at.0.consumed)

-- a message was written
pub loop-buffer-preserved : goal.loop-buffer-preserved
loop-buffer-preserved g c =
    let w = c.args.wanted.now in
    let f = c.in-Some.found in
    let at = here-front c.args.wanted.now c.in-Some.is c.in_ok-found.ensures.finds
    c.loop-buffer.invariant.here c.in_ok-found.ensures.same in
    let octets = take f.len c.octets_held-held.result.now in
    let wrote = subst (λ (o : One). WritesOne w c.loop-buffer.next
    c.loop-buffer.count octets o (g.K.Sink.contents c.find_piece_passing.new.out)
    (g.K.Sink.contents c.split_one.new.out)) c.in-Ok-Written.field-0-is c.in-Ok-Written.ensures.ok
    in
    let fits = c.in_default-end_before.ensures.none refl in
    let few : c.in-Ok-Written.behind ≤ 16383 = omega (arith, wrote.2) in
    record {
      here = here-next w _ _ f _ _ _ _ _ octets c.loop-buffer.next c.loop-buffer.next
          c.loop-buffer.count c.loop-buffer.place c.in-Ok-Written.behind
          c.saturating_add-place.result (c.loop-buffer.next + 1) c.in-Ok-Written.field-0 at.0 at.1
          fits.0 fits.2
          (ap (take f.len) c.octets_held-held.ensures) refl c.in-Ok-Written.field-0-is
          c.in-Ok-Written.ensures.ok c.saturating_add-place.ensures refl c.skip.ensures.held
          c.skip.ensures.cut c.skip.ensures.step c.skip.ensures.end;
      most = inl (omega (arith, fits.1));
      count = few;
      reader = at.2 ∙ c.loop-buffer.invariant.reader;
    }
