-- Piece after piece, until none is left or no more is taken.
use Rattle.std.proofs.Common.{◌≡◌, ◌∙◌, inl, inr, ◌++◌, ◌∷◌, ◌+◌, [], ℕ, List, take, Option, Bool, true, false, sym, subst, refl, arith, append-nil}
use Rattle.std.proofs.lemmas.List.{length-take-le}
use Rattle.std.proofs.lemmas.Result.{err_from_is_err_and}
use Rattle.std.proofs.KnownBytes.{Appends-kept, Appends-nil, Consumes-nil, Consumes-trans}
use Rattle.std.specs.Io.KnownBytes.{Appends, Consumes}
use Rattle.lpt_text.specs.declared.fault.StreamFault.TheVariants as faults
use Rattle.lpt_text.specs.Streams.{AppendsPart}
use Rattle.lpt_text.proofs.StreamLemmas.{part_whole}
use Rattle.lpt_stream.specs.Buffers.{octets_held, is_in_step, found_piece}
use Rattle.lpt_stream.specs.Pieces.{Piece, IsSealedBy, keeps_step, octets_in, up_to_limit}
use Rattle.lpt_stream.proofs.BufferLemmas.{finds_as, passing-lost, passing-open}
use Rattle.lpt_stream.proofs.CutLemmas.{read-endless, read-front, read-end, read-leads, read-more, read-next, read-none, read-open, told-behind}
use Rattle.lpt_stream.proofs.EndLemmas.{any-err, other-fault, passing-reader, reader-after, reader-kept, writer-after}
use Rattle.lpt_stream.proofs.SealLemmas.{found_sealed}
use Rattle.lpt_stream.proofs.each.take_pieces.Goals as goal

never : (e : Bool) → e ≡ false → e ≡ true → ⊥
never e h k = cc

nothing-behind : (a b : Option (List ℕ)) (read : List ℕ) → Consumes a b read
    → Consumes a b (read ++ [])
nothing-behind a b read h = subst (Consumes a b) (sym (append-nil read)) h

pub loop-count-init : goal.loop-count-init
loop-count-init g c =
    let first = c.args.first in
    let old = c.args.lent.now in
    let out = g.K.Sink.contents c.args.out.now in
    record {
      read = (
        [],
        Consumes-nil (g.P.Peer.remaining c.args.source.now),
        read-none (g.T.Taker.cut c.args.first)
            (λ pieces. g.T.Taker.takes c.args.from first first old old pieces
            × Appends out out (g.T.Taker.writes c.args.from first pieces)
            × (c.args.from ≡ up_to_limit (c.args.from + octets_in pieces)))
            c.new-buffer.result (
              c.requires.taken,
              subst (Appends out out) (sym c.requires.nothing) (Appends-nil out),
              omega (arith, c.ranges.from),
            )
            c.new-buffer.ensures.held (c.new-buffer.ensures.cut ∙ c.cut-cut.ensures)
            c.new-buffer.ensures.step,
      );
      ended = λ e. absurd (never (c.new-buffer.result.ended) c.new-buffer.ensures.end e);
      same = refl;
      reader = refl;
      writer = refl;
    }

-- the pieces so far were taken
pub take-requires-clause-before : goal.take-requires-clause-before
take-requires-clause-before g c = (
  c.args.from,
  c.args.first,
  c.args.lent.now,
  c.loop-count.invariant.read.2.pieces,
  c.loop-count.invariant.read.2.gives.0,
)

-- and the checksum of the next was, where it is whole
pub take-requires-clause-sealed : goal.take-requires-clause-sealed
take-requires-clause-sealed g c =
    let f = c.in-Some.found in
    let now = c.find_piece_passing.new.self in
    let found = finds_as _ _ _ _ _ _ _ _ c.in-Some.is c.in_ok-found.ensures.finds in
    subst (λ o. IsSealedBy (g.T.Taker.cut c.loop-count.taker) f.kind (take f.len o))
    (sym c.octets_held.ensures)
    (subst (λ x. IsSealedBy x f.kind (take f.len (octets_held now)))
    (found.1.added.cut ∙ c.loop-count.invariant.read.2.is ∙ sym c.loop-count.invariant.same)
    (found_sealed now f found.2))

-- the stream is at its end, and nothing is left
pub returns-in_default-clause-taken : goal.returns-in_default-clause-taken
returns-in_default-clause-taken g c =
    let a = g.P.Peer.remaining c.args.source.now in
    let b = g.P.Peer.remaining c.loop-count.source in
    let d = g.P.Peer.remaining c.find_piece_passing.new.source in
    let old = g.K.Sink.contents c.args.out.now in
    let kept = g.K.Sink.contents c.loop-count.out in
    let mid = g.K.Sink.contents c.find_piece_passing.new.out in
    let found = finds_as _ _ _ _ _ _ _ _ c.in_default.is c.in_ok-found.ensures.finds in
    let was = c.loop-count.invariant.read in
    let read =
    read-more (g.T.Taker.cut c.args.first) _ c.loop-count.buffer c.find_piece_passing.new.self b
    d was.0 found.0
    c.loop-count.count was.2 found.1 in
    let cut = read-end (g.T.Taker.cut c.args.first) _ c.find_piece_passing.new.self
    (was.0 ++ found.0) c.loop-count.count
    read found.2 in
    record {
      stream = was.0 ++ found.0;
      pieces = read.pieces;
      in_step = cut.0;
      rest = [];
      consumed = Consumes-trans a b d was.0 found.0 was.1 found.1.added.consumed;
      leads = cut.1;
      ends = inl (refl, found.1.at_end c.loop-count.invariant.ended found.3);
      gives = (read.gives.0, Appends-kept old kept mid _ read.gives.1 c.in_ok-found.ensures.same);
    }

pub returns-in_default-clause-reader : goal.returns-in_default-clause-reader
returns-in_default-clause-reader g c =
    let found = finds_as _ _ _ _ _ _ _ _ c.in_default.is c.in_ok-found.ensures.finds in
    found.4 ∙ c.loop-count.invariant.reader

pub returns-in_default-clause-writer : goal.returns-in_default-clause-writer
returns-in_default-clause-writer g c =
    c.in_ok-found.ensures.writer ∙ c.loop-count.invariant.writer

-- a piece was taken
pub loop-count-preserved : goal.loop-count-preserved
loop-count-preserved g c =
    let first = c.args.first in
    let lent = c.args.lent.now in
    let a = g.P.Peer.remaining c.args.source.now in
    let b = g.P.Peer.remaining c.loop-count.source in
    let d = g.P.Peer.remaining c.find_piece_passing.new.source in
    let old = g.K.Sink.contents c.args.out.now in
    let kept = g.K.Sink.contents c.loop-count.out in
    let mid = g.K.Sink.contents c.find_piece_passing.new.out in
    let new = g.K.Sink.contents c.take.new.out in
    let f = c.in-Some.found in
    let now = c.find_piece_passing.new.self in
    let found = finds_as _ _ _ _ _ _ _ _ c.in-Some.is c.in_ok-found.ensures.finds in
    let was = c.loop-count.invariant.read in
    let Q : List Piece → Type 0 = λ pieces.
    g.T.Taker.takes c.args.from first c.in_ok-taker.taker lent c.take.new.lent pieces
    × Appends old new (g.T.Taker.writes c.args.from first pieces)
    × (c.saturating_add-place.result ≡ up_to_limit (c.args.from + octets_in pieces)) in
    let read =
    read-more
    (g.T.Taker.cut c.args.first) _ c.loop-count.buffer now b d was.0 found.0 c.loop-count.count
    was.2
    found.1 in
    let wrote = Appends-kept old kept mid _ read.gives.1 c.in_ok-found.ensures.same in
    let piece = found_piece now f in
    let step : Q (read.pieces ++ piece ∷ []) = (
      subst (λ o. g.T.Taker.takes c.args.from first c.in_ok-taker.taker lent c.take.new.lent
          (read.pieces ++ record { kind = f.kind; octets = take f.len o } ∷ []))
          c.octets_held.ensures
          (c.in_ok-taker.ensures.taken c.args.from first lent read.pieces read.gives.0
          read.gives.2),
      subst (λ o. Appends old new (g.T.Taker.writes c.args.from first
          (read.pieces ++ record { kind = f.kind; octets = take f.len o } ∷ [])))
          c.octets_held.ensures
          (c.in_ok-taker.ensures.wrote c.args.from first lent read.pieces old read.gives.0
          read.gives.2 wrote),
      told-behind c.args.from read.pieces piece c.loop-count.place c.saturating_add-place.result
          f.len
          read.gives.2
          (length-take-le f.len (octets_held now) found.2.within) c.saturating_add-place.ensures,
    ) in
    record {
      read = (
        was.0 ++ found.0,
        Consumes-trans a b d was.0 found.0 was.1 found.1.added.consumed,
        read-next (g.T.Taker.cut c.args.first) _ Q now c.skip.new.self f
            (was.0 ++ found.0) c.loop-count.count read found.2
            c.skip.ensures.held c.skip.ensures.cut c.skip.ensures.step c.skip.ensures.end step,
      );
      ended = λ e. found.1.at_end c.loop-count.invariant.ended (sym c.skip.ensures.end ∙ e);
      same = c.in_ok-taker.ensures.same ∙ c.loop-count.invariant.same;
      reader = found.3 ∙ c.loop-count.invariant.reader;
      writer = c.in_ok-taker.ensures.writer
          ∙ (c.in_ok-found.ensures.writer ∙ c.loop-count.invariant.writer);
    }

-- a read failed, memory ran out, or octets couldn't be passed on
pub returns-in_err-found-clause-leaves : goal.returns-in_err-found-clause-leaves
returns-in_err-found-clause-leaves g c =
    let a = g.P.Peer.remaining c.args.source.now in
    let b = g.P.Peer.remaining c.loop-count.source in
    let d = g.P.Peer.remaining c.find_piece_passing.new.source in
    let old = g.K.Sink.contents c.args.out.now in
    let kept = g.K.Sink.contents c.loop-count.out in
    let mid = g.K.Sink.contents c.find_piece_passing.new.out in
    let was = c.loop-count.invariant.read in
    let lost = passing-lost c.in_err-found.field-0.0 c.loop-count.buffer
    c.find_piece_passing.new.self b d
    (g.P.Peer.failed c.loop-count.source) (g.P.Peer.failed c.find_piece_passing.new.source)
    c.in_err-found.ensures.finds in
    any-err _ c.from_residual.result
    (record {
      stream = was.0;
      others = lost.0;
      pieces = was.2.pieces;
      in_step = is_in_step c.loop-count.buffer;
      rest = octets_held c.loop-count.buffer;
      consumed = Consumes-trans a b d was.0 lost.0 was.1 lost.1;
      leads = read-leads
          (g.T.Taker.cut c.args.first) _ c.loop-count.buffer was.0 c.loop-count.count was.2;
      front = (
        inl (c.loop-count.taker, was.2.gives.0),
        part_whole old mid _
            (Appends-kept old kept mid _ was.2.gives.1 c.in_err-found.ensures.same),
      );
    })

pub returns-in_err-found-clause-reader : goal.returns-in_err-found-clause-reader
returns-in_err-found-clause-reader g c =
    let p = err_from_is_err_and c.from_residual.result c.from_residual.ensures.1 in
    rw (p.1, p.2)
    (reader-after _ c.in_err-found.field-0.0 _ _ _
    (passing-reader _ c.in_err-found.field-0.0 _ _ _ _ _ _ c.in_err-found.ensures.finds)
    c.loop-count.invariant.reader)

pub returns-in_err-found-clause-failed : goal.returns-in_err-found-clause-failed
returns-in_err-found-clause-failed g c =
    let p = err_from_is_err_and c.from_residual.result c.from_residual.ensures.1 in
    rw (p.1, p.2)
    (inr (writer-after c.in_err-found.field-0.0 _ _ _ c.in_err-found.ensures.writer
    c.loop-count.invariant.writer))

-- the taker failed
pub returns-in_err-taker-clause-leaves : goal.returns-in_err-taker-clause-leaves
returns-in_err-taker-clause-leaves g c =
    let first = c.args.first in
    let lent = c.args.lent.now in
    let a = g.P.Peer.remaining c.args.source.now in
    let b = g.P.Peer.remaining c.loop-count.source in
    let d = g.P.Peer.remaining c.find_piece_passing.new.source in
    let old = g.K.Sink.contents c.args.out.now in
    let kept = g.K.Sink.contents c.loop-count.out in
    let mid = g.K.Sink.contents c.find_piece_passing.new.out in
    let new = g.K.Sink.contents c.take.new.out in
    let f = c.in-Some.found in
    let now = c.find_piece_passing.new.self in
    let found = finds_as _ _ _ _ _ _ _ _ c.in-Some.is c.in_ok-found.ensures.finds in
    let was = c.loop-count.invariant.read in
    let read =
    read-more
    (g.T.Taker.cut c.args.first) _ c.loop-count.buffer now b d was.0 found.0 c.loop-count.count
    was.2
    found.1 in
    let wrote = Appends-kept old kept mid _ read.gives.1 c.in_ok-found.ensures.same in
    any-err _ c.from_residual-in_err-taker.result
    (record {
      stream = was.0 ++ found.0;
      others = [];
      pieces = read.pieces ++ found_piece now f ∷ [];
      in_step = keeps_step f.kind;
      rest = _;
      consumed = nothing-behind a d (was.0 ++ found.0)
          (Consumes-trans a b d was.0 found.0 was.1 found.1.added.consumed);
      leads = read-front (g.T.Taker.cut c.args.first) _ now f
          (was.0 ++ found.0) c.loop-count.count read found.2;
      front = (
        inr (subst (λ o. g.T.Taker.leaves c.args.from first lent c.take.new.lent
            (read.pieces ++ record { kind = f.kind; octets = take f.len o } ∷ []))
            c.octets_held.ensures
            (c.in_err-taker.ensures.left c.args.from first lent read.pieces read.gives.0)),
        subst (λ o. AppendsPart old new (g.T.Taker.writes c.args.from first
            (read.pieces ++ record { kind = f.kind; octets = take f.len o } ∷ [])))
            c.octets_held.ensures
            (c.in_err-taker.ensures.part c.args.from first lent read.pieces old read.gives.0
            read.gives.2 wrote),
      );
    })

pub returns-in_err-taker-clause-reader : goal.returns-in_err-taker-clause-reader
returns-in_err-taker-clause-reader g c =
    let found = finds_as _ _ _ _ _ _ _ _ c.in-Some.is c.in_ok-found.ensures.finds in
    let p = err_from_is_err_and c.from_residual-in_err-taker.result
    c.from_residual-in_err-taker.ensures.1 in
    rw (p.1, p.2)
    (reader-kept _ c.in_err-taker.field-0.0 _ _
    (other-fault c.in_err-taker.field-0.0 c.in_err-taker.ensures.fault)
    (found.3 ∙ c.loop-count.invariant.reader))

pub returns-in_err-taker-clause-failed : goal.returns-in_err-taker-clause-failed
returns-in_err-taker-clause-failed g c =
    let p = err_from_is_err_and c.from_residual-in_err-taker.result
    c.from_residual-in_err-taker.ensures.1 in
    rw (p.1, p.2)
    (elim c.in_err-taker.ensures.failed [
      | inl h ↦ inl h
      | inr h ↦ inr (writer-after c.in_err-taker.field-0.0 _ _ _ h
          (c.in_ok-found.ensures.writer ∙ c.loop-count.invariant.writer))
    ])

-- so many pieces came
pub returns-clause-leaves : goal.returns-clause-leaves
returns-clause-leaves g c =
    let was = c.loop-count.invariant.read in
    record {
      stream = was.0;
      others = [];
      pieces = was.2.pieces;
      in_step = is_in_step c.loop-count.buffer;
      rest = octets_held c.loop-count.buffer;
      consumed = nothing-behind (g.P.Peer.remaining c.args.source.now)
          (g.P.Peer.remaining c.loop-count.source) was.0 was.1;
      leads = read-leads
          (g.T.Taker.cut c.args.first) _ c.loop-count.buffer was.0 c.loop-count.count was.2;
      front = (inl (c.loop-count.taker, was.2.gives.0), part_whole _ _ _ was.2.gives.1);
    }

pub returns-clause-reader : goal.returns-clause-reader
returns-clause-reader g c =
    inr (read-endless (g.T.Taker.cut c.args.first) _ c.loop-count.buffer _ _ c.loop-count.count
    c.loop-count.invariant.read
    (grind (arith, c.loop-count.auto.count-end, c.loop-count-test.false)))

pub returns-clause-failed : goal.returns-clause-failed
returns-clause-failed g c = inr c.loop-count.invariant.writer

pub returns-clause-settled : goal.returns-clause-settled
returns-clause-settled g c = λ read.
    inr (read-endless (g.T.Taker.cut c.args.first) _ c.loop-count.buffer _ _ c.loop-count.count
    c.loop-count.invariant.read
    (grind (arith, c.loop-count.auto.count-end, c.loop-count-test.false)))

-- a read failed: all that was settled was taken
pub returns-in_err-found-clause-settled : goal.returns-in_err-found-clause-settled
returns-in_err-found-clause-settled g c =
    let a = g.P.Peer.remaining c.args.source.now in
    let b = g.P.Peer.remaining c.loop-count.source in
    let d = g.P.Peer.remaining c.find_piece_passing.new.source in
    let old = g.K.Sink.contents c.args.out.now in
    let kept = g.K.Sink.contents c.loop-count.out in
    let mid = g.K.Sink.contents c.find_piece_passing.new.out in
    let was = c.loop-count.invariant.read in
    let p = err_from_is_err_and c.from_residual.result c.from_residual.ensures.1 in
    λ read.
    let fault : c.in_err-found.field-0.0 ≡ faults.Read = cc in
    let found = passing-open c.in_err-found.field-0.0 c.loop-count.buffer
    c.find_piece_passing.new.self b d
    (g.P.Peer.failed c.loop-count.source) (g.P.Peer.failed c.find_piece_passing.new.source)
    fault c.in_err-found.ensures.finds in
    let stays = read-open (g.T.Taker.cut c.args.first) _ c.loop-count.buffer
    c.find_piece_passing.new.self b d was.0 c.loop-count.count was.2 found in
    inl (record {
      stream = was.0 ++ found.0;
      pieces = was.2.pieces;
      in_step = is_in_step c.find_piece_passing.new.self;
      rest = octets_held c.find_piece_passing.new.self;
      consumed = Consumes-trans a b d was.0 found.0 was.1 found.1.consumed;
      leads = stays.0;
      waits = stays.1;
      gives = (
        (c.loop-count.taker, was.2.gives.0),
        Appends-kept old kept mid _ was.2.gives.1 c.in_err-found.ensures.same,
      );
    })

-- the taker's fault is none of a read
pub returns-in_err-taker-clause-settled : goal.returns-in_err-taker-clause-settled
returns-in_err-taker-clause-settled g c =
    let p = err_from_is_err_and c.from_residual-in_err-taker.result
    c.from_residual-in_err-taker.ensures.1 in
    λ read.
    let fault : c.in_err-taker.field-0.0 ≡ faults.Read = cc in
    absurd (other-fault c.in_err-taker.field-0.0 c.in_err-taker.ensures.fault fault)

-- no more is taken
pub returns-then-not-is_open-clause-taken : goal.returns-then-not-is_open-clause-taken
returns-then-not-is_open-clause-taken g c =
    let was = c.loop-count.invariant.read in
    record {
      stream = was.0;
      pieces = was.2.pieces;
      in_step = is_in_step c.loop-count.buffer;
      rest = octets_held c.loop-count.buffer;
      consumed = was.1;
      leads = read-leads (g.T.Taker.cut c.args.first) _ c.loop-count.buffer was.0
          c.loop-count.count was.2;
      ends = inr (sym c.is_open.ensures ∙ c.if-not-is_open.true);
      gives = (was.2.gives.0, was.2.gives.1);
    }
