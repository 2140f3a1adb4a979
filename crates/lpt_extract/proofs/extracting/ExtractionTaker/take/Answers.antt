-- A piece more.
use Rattle.std.proofs.Common.{sym, subst, [], ◌∷◌, ◌++◌}
use Rattle.std.specs.Io.KnownBytes.{Appends}
use Rattle.lpt_text.specs.Streams.{AppendsPart}
use Rattle.lpt_stream.specs.Pieces.{Piece, packets_of}
use Rattle.lpt_extract.specs.declared.wanted.Wanted.{Wanted}
use Rattle.lpt_extract.specs.Extracts.{areas_in, written_first}
use Rattle.lpt_stream.proofs.EndLemmas.{any-err}
use Rattle.lpt_extract.proofs.ReadLemmas.{hears-next, held-next, part-next, wrote-next}
use Rattle.lpt_extract.proofs.extracting.ExtractionTaker.take.Goals as goal

pub returns-clause-taken : goal.returns-clause-taken
returns-clause-taken g c = λ from first old pieces h at.
    let was = c.args.self in
    let w = was.wanted in
    let p : Piece = record { kind = c.args.kind; octets = c.args.octets.now } in
    record {
      same = h.same;
      held = held-next w from pieces p was.holding c.take_piece.new.holding c.args.place at h.held
          c.in_ok-take_piece.ensures.held;
      hears_is = hears-next w from pieces p (g.L.Listener.heard old)
          (g.L.Listener.heard c.args.lent.now) (g.L.Listener.heard c.take_piece.new.listener)
          c.args.place at h.hears_is c.in_ok-take_piece.ensures.heard;
    }

pub returns-clause-wrote : goal.returns-clause-wrote
returns-clause-wrote g c = λ from first old pieces start h at before.
    let w = c.args.self.wanted in
    let p : Piece = record { kind = c.args.kind; octets = c.args.octets.now } in
    let mid = g.K.Sink.contents c.args.out.now in
    let new = g.K.Sink.contents c.take_piece.new.out in
    subst (λ (v : Wanted). Appends start new
    (written_first v.at (areas_in v (packets_of (pieces ++ p ∷ []))))) h.same
    (wrote-next w from pieces p start mid new
    (subst (λ (v : Wanted). Appends start mid (written_first v.at (areas_in v (packets_of pieces))))
    (sym h.same) before) c.in_ok-take_piece.ensures.wrote)

pub returns-in_err-take_piece-clause-part : goal.returns-in_err-take_piece-clause-part
returns-in_err-take_piece-clause-part g c = λ from first old pieces start h at before.
    let w = c.args.self.wanted in
    let p : Piece = record { kind = c.args.kind; octets = c.args.octets.now } in
    let mid = g.K.Sink.contents c.args.out.now in
    let new = g.K.Sink.contents c.take_piece.new.out in
    any-err _ c.from_residual.result
    (subst (λ (v : Wanted). AppendsPart start new
    (written_first v.at (areas_in v (packets_of (pieces ++ p ∷ []))))) h.same
    (part-next w from pieces p start mid new
    (subst (λ (v : Wanted). Appends start mid (written_first v.at (areas_in v (packets_of pieces))))
    (sym h.same) before) c.in_err-take_piece.ensures.part))

pub returns-in_err-take_piece-clause-left : goal.returns-in_err-take_piece-clause-left
returns-in_err-take_piece-clause-left g c = λ from first old pieces h.
    any-err _ c.from_residual.result tt
