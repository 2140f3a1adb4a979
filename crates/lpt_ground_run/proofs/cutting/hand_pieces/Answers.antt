-- Piece after piece, until none is left or no more is taken.
use Rattle.std.proofs.Common.{◌≡◌, ◌∙◌, inl, inr, ◌++◌, ◌∷◌, ◌+◌, [], ℕ, List, take, Option, Bool, true, false, sym, subst, refl, arith, append-nil}
use Rattle.std.proofs.lemmas.List.{length-take-le}
use Rattle.std.proofs.lemmas.Result.{err_from_is_err_and}
use Rattle.std.proofs.KnownBytes.{Consumes-nil, Consumes-trans}
use Rattle.std.specs.Io.KnownBytes.{Consumes}
use Rattle.lpt_stream.specs.Buffers.{octets_held, is_in_step, found_piece}
use Rattle.lpt_stream.specs.Pieces.{Piece, keeps_step, octets_in, up_to_limit}
use Rattle.lpt_stream.proofs.BufferLemmas.{finds_as, passing-lost}
use Rattle.lpt_stream.proofs.CutLemmas.{read-endless, read-front, read-end, read-leads, read-more, read-next, read-none, told-behind}
use Rattle.lpt_stream.proofs.EndLemmas.{any-err, other-fault, passing-reader, reader-after, reader-kept}
use Rattle.lpt_ground_run.specs.Halts.{cut_of, passed_in, HasHanded, Rises}
use Rattle.lpt_ground_run.specs.Handing.{GainsPart, packets_in}
use Rattle.lpt_ground_run.proofs.HandingLemmas.{has-begun, is-packet, part-of}
use Rattle.lpt_ground_run.proofs.cutting.hand_pieces.Goals as goal

never : (e : Bool) → e ≡ false → e ≡ true → ⊥
never e h k = cc

nothing-behind : (a b : Option (List ℕ)) (read : List ℕ) → Consumes a b read
    → Consumes a b (read ++ [])
nothing-behind a b read h = subst (Consumes a b) (sym (append-nil read)) h

pub loop-count-init : goal.loop-count-init
loop-count-init g c =
    let first = c.args.first in
    let lent = c.args.lent.now in
    record {
      read = (
        [],
        Consumes-nil (g.S.Source.remaining c.args.source.now),
        read-none (cut_of first.cutting)
            (λ pieces. HasHanded 0 first.cutting first.cutting (g.O.Outlet.is_open lent) first.halt
            (g.O.Outlet.handed lent) (g.O.Outlet.handed lent) (g.O.Outlet.strays lent)
            (g.O.Outlet.strays lent) pieces
            × (0 ≡ up_to_limit (0 + octets_in pieces)))
            c.new-buffer.result (
              has-begun first.cutting (g.O.Outlet.is_open lent) first.halt
                  (g.O.Outlet.handed lent) (g.O.Outlet.strays lent) c.requires.open c.requires.end,
              omega arith,
            )
            c.new-buffer.ensures.held (c.new-buffer.ensures.cut ∙ c.cut-cut.ensures)
            c.new-buffer.ensures.step,
      );
      ended = λ e. absurd (never (c.new-buffer.result.ended) c.new-buffer.ensures.end e);
      reader = refl;
    }

-- the next is a packet of what comes
pub take-requires-clause-may : goal.take-requires-clause-may
take-requires-clause-may g c whole =
    let cut = cut_of c.args.first.cutting in
    let a = g.S.Source.remaining c.args.source.now in
    let b = g.S.Source.remaining c.loop-count.source in
    let d = g.S.Source.remaining c.find_piece_passing.new.source in
    let f = c.in-Some.found in
    let now = c.find_piece_passing.new.self in
    let found = finds_as _ _ _ _ _ _ _ _ c.in-Some.is c.in_ok-found.ensures.finds in
    let was = c.loop-count.invariant.read in
    let read =
    read-more cut _ c.loop-count.buffer now b d was.0 found.0 c.loop-count.count was.2 found.1 in
    subst (λ o. g.O.Outlet.may (take f.len o)) (sym c.octets_held.ensures)
    (c.requires.may (take f.len (octets_held now))
    (is-packet c.args.first.cutting.longest a d (was.0 ++ found.0) read.pieces f.kind
    (take f.len (octets_held now)) (keeps_step f.kind) _
    (Consumes-trans a b d was.0 found.0 was.1 found.1.added.consumed)
    (read-front cut _ now f (was.0 ++ found.0) c.loop-count.count read found.2) whole))

-- the stream is at its end, and nothing is left
pub returns-in_default-clause-taken : goal.returns-in_default-clause-taken
returns-in_default-clause-taken g c =
    let cut = cut_of c.args.first.cutting in
    let a = g.S.Source.remaining c.args.source.now in
    let b = g.S.Source.remaining c.loop-count.source in
    let d = g.S.Source.remaining c.find_piece_passing.new.source in
    let found = finds_as _ _ _ _ _ _ _ _ c.in_default.is c.in_ok-found.ensures.finds in
    let was = c.loop-count.invariant.read in
    let read =
    read-more cut _ c.loop-count.buffer c.find_piece_passing.new.self b d was.0 found.0
    c.loop-count.count was.2 found.1 in
    let at_end = read-end cut _ c.find_piece_passing.new.self (was.0 ++ found.0) c.loop-count.count
    read found.2 in
    record {
      stream = was.0 ++ found.0;
      pieces = read.pieces;
      in_step = at_end.0;
      rest = [];
      consumed = Consumes-trans a b d was.0 found.0 was.1 found.1.added.consumed;
      leads = at_end.1;
      ends = inl (refl, found.1.at_end c.loop-count.invariant.ended found.3);
      gives = read.gives.0;
    }

pub returns-in_default-clause-reader : goal.returns-in_default-clause-reader
returns-in_default-clause-reader g c =
    let found = finds_as _ _ _ _ _ _ _ _ c.in_default.is c.in_ok-found.ensures.finds in
    found.4 ∙ c.loop-count.invariant.reader

-- a piece was taken
pub loop-count-preserved : goal.loop-count-preserved
loop-count-preserved g c =
    let first = c.args.first in
    let cut = cut_of first.cutting in
    let old = c.args.lent.now in
    let new = c.take.new.lent in
    let next = c.in_ok-taker.taker in
    let a = g.S.Source.remaining c.args.source.now in
    let b = g.S.Source.remaining c.loop-count.source in
    let d = g.S.Source.remaining c.find_piece_passing.new.source in
    let f = c.in-Some.found in
    let now = c.find_piece_passing.new.self in
    let found = finds_as _ _ _ _ _ _ _ _ c.in-Some.is c.in_ok-found.ensures.finds in
    let was = c.loop-count.invariant.read in
    let H : List Piece → Type 0 = λ pieces.
    HasHanded 0 first.cutting next.cutting (g.O.Outlet.is_open new) next.halt
    (g.O.Outlet.handed old) (g.O.Outlet.handed new) (g.O.Outlet.strays old)
    (g.O.Outlet.strays new) pieces in
    let Q : List Piece → Type 0 = λ pieces.
    H pieces × (c.saturating_add-place.result ≡ up_to_limit (0 + octets_in pieces)) in
    let read =
    read-more cut _ c.loop-count.buffer now b d was.0 found.0 c.loop-count.count was.2 found.1 in
    let piece = found_piece now f in
    let step : Q (read.pieces ++ piece ∷ []) = (
      subst (λ o. H (read.pieces ++ record { kind = f.kind; octets = take f.len o } ∷ []))
          c.octets_held.ensures
          (c.in_ok-taker.ensures.taken 0 first.cutting old read.pieces read.gives.0
          read.gives.1),
      told-behind 0 read.pieces piece c.loop-count.place c.saturating_add-place.result
          f.len
          read.gives.1
          (length-take-le f.len (octets_held now) found.2.within) c.saturating_add-place.ensures,
    ) in
    record {
      read = (
        was.0 ++ found.0,
        Consumes-trans a b d was.0 found.0 was.1 found.1.added.consumed,
        read-next cut _ Q now c.skip.new.self f
            (was.0 ++ found.0) c.loop-count.count read found.2
            c.skip.ensures.held c.skip.ensures.cut c.skip.ensures.step c.skip.ensures.end step,
      );
      ended = λ e. found.1.at_end c.loop-count.invariant.ended (sym c.skip.ensures.end ∙ e);
      reader = found.3 ∙ c.loop-count.invariant.reader;
    }

-- a read failed, or memory ran out
pub returns-in_err-found-clause-leaves : goal.returns-in_err-found-clause-leaves
returns-in_err-found-clause-leaves g c =
    let a = g.S.Source.remaining c.args.source.now in
    let b = g.S.Source.remaining c.loop-count.source in
    let d = g.S.Source.remaining c.find_piece_passing.new.source in
    let was = c.loop-count.invariant.read in
    let lost = passing-lost c.in_err-found.field-0.0 c.loop-count.buffer
    c.find_piece_passing.new.self b d
    (g.S.Source.failed c.loop-count.source) (g.S.Source.failed c.find_piece_passing.new.source)
    c.in_err-found.ensures.finds in
    any-err _ c.from_residual.result
    (record {
      stream = was.0;
      others = lost.0;
      pieces = was.2.pieces;
      in_step = is_in_step c.loop-count.buffer;
      rest = octets_held c.loop-count.buffer;
      consumed = Consumes-trans a b d was.0 lost.0 was.1 lost.1;
      leads = read-leads (cut_of c.args.first.cutting) _ c.loop-count.buffer was.0
          c.loop-count.count was.2;
      front = (part-of _ _ _ was.2.gives.0.1.gains, was.2.gives.0.1.rises);
    })

pub returns-in_err-found-clause-reader : goal.returns-in_err-found-clause-reader
returns-in_err-found-clause-reader g c =
    let p = err_from_is_err_and c.from_residual.result c.from_residual.ensures.1 in
    rw (p.1, p.2)
    (reader-after _ c.in_err-found.field-0.0 _ _ _
    (passing-reader _ c.in_err-found.field-0.0 _ _ _ _ _ _ c.in_err-found.ensures.finds)
    c.loop-count.invariant.reader)

-- a packet couldn't be kept
pub returns-in_err-taker-clause-leaves : goal.returns-in_err-taker-clause-leaves
returns-in_err-taker-clause-leaves g c =
    let first = c.args.first in
    let cut = cut_of first.cutting in
    let old = c.args.lent.now in
    let new = c.take.new.lent in
    let a = g.S.Source.remaining c.args.source.now in
    let b = g.S.Source.remaining c.loop-count.source in
    let d = g.S.Source.remaining c.find_piece_passing.new.source in
    let f = c.in-Some.found in
    let now = c.find_piece_passing.new.self in
    let found = finds_as _ _ _ _ _ _ _ _ c.in-Some.is c.in_ok-found.ensures.finds in
    let was = c.loop-count.invariant.read in
    let read =
    read-more cut _ c.loop-count.buffer now b d was.0 found.0 c.loop-count.count was.2 found.1 in
    any-err _ c.from_residual-in_err-taker.result
    (record {
      stream = was.0 ++ found.0;
      others = [];
      pieces = read.pieces ++ found_piece now f ∷ [];
      in_step = keeps_step f.kind;
      rest = _;
      consumed = nothing-behind a d (was.0 ++ found.0)
          (Consumes-trans a b d was.0 found.0 was.1 found.1.added.consumed);
      leads = read-front cut _ now f (was.0 ++ found.0) c.loop-count.count read found.2;
      front =
          subst (λ o. GainsPart (g.O.Outlet.handed old) (g.O.Outlet.handed new)
          (packets_in (read.pieces ++ record { kind = f.kind; octets = take f.len o } ∷ []))
          × Rises (g.O.Outlet.strays old) (g.O.Outlet.strays new) (passed_in first.cutting.resumes
          (read.pieces ++ record { kind = f.kind; octets = take f.len o } ∷ [])))
          c.octets_held.ensures
          (c.in_err-taker.ensures.left 0 first.cutting old read.pieces read.gives.0);
    })

pub returns-in_err-taker-clause-reader : goal.returns-in_err-taker-clause-reader
returns-in_err-taker-clause-reader g c =
    let found = finds_as _ _ _ _ _ _ _ _ c.in-Some.is c.in_ok-found.ensures.finds in
    let p = err_from_is_err_and c.from_residual-in_err-taker.result
    c.from_residual-in_err-taker.ensures.1 in
    rw (p.1, p.2)
    (reader-kept _ c.in_err-taker.field-0.0 _ _
    (other-fault c.in_err-taker.field-0.0 c.in_err-taker.ensures.fault)
    (found.3 ∙ c.loop-count.invariant.reader))

-- so many pieces came
pub returns-clause-leaves : goal.returns-clause-leaves
returns-clause-leaves g c =
    let was = c.loop-count.invariant.read in
    record {
      stream = was.0;
      others = [];
      pieces = was.2.pieces;
      in_step = is_in_step c.loop-count.buffer;
      rest = octets_held c.loop-count.buffer;
      consumed = nothing-behind (g.S.Source.remaining c.args.source.now)
          (g.S.Source.remaining c.loop-count.source) was.0 was.1;
      leads = read-leads (cut_of c.args.first.cutting) _ c.loop-count.buffer was.0
          c.loop-count.count was.2;
      front = (part-of _ _ _ was.2.gives.0.1.gains, was.2.gives.0.1.rises);
    }

pub returns-clause-reader : goal.returns-clause-reader
returns-clause-reader g c =
    inr (read-endless (cut_of c.args.first.cutting) _ c.loop-count.buffer _ _ c.loop-count.count
    c.loop-count.invariant.read
    (grind (arith, c.loop-count.auto.count-end, c.loop-count-test.false)))

-- no more is taken
pub returns-then-not-is_end-clause-taken : goal.returns-then-not-is_end-clause-taken
returns-then-not-is_end-clause-taken g c =
    let was = c.loop-count.invariant.read in
    record {
      stream = was.0;
      pieces = was.2.pieces;
      in_step = is_in_step c.loop-count.buffer;
      rest = octets_held c.loop-count.buffer;
      consumed = was.1;
      leads = read-leads (cut_of c.args.first.cutting) _ c.loop-count.buffer was.0
          c.loop-count.count was.2;
      ends = inr (sym c.is_end.ensures ∙ c.if-not-is_end.true);
      gives = was.2.gives.0;
    }
