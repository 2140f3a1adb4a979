-- A piece more.
use Rattle.std.proofs.Common.{sym, subst, [], ◌∷◌, ◌++◌}
use Rattle.std.specs.Io.KnownBytes.{Appends}
use Rattle.lpt_text.specs.Streams.{AppendsPart}
use Rattle.lpt_text.proofs.StreamLemmas.{part_unchanged}
use Rattle.lpt_stream.specs.Pieces.{Piece, packets_of}
use Rattle.lpt_stream.proofs.CutLemmas.{packets-next}
use Rattle.lpt_stream.proofs.EndLemmas.{any-err}
use Rattle.lpt_extract.specs.declared.wanted.Wanted.{Wanted}
use Rattle.lpt_extract.specs.Extracts.{areas_in, written_first}
use Rattle.lpt_extract.specs.Joined.{reads}
use Rattle.lpt_extract.proofs.JoinedLemmas.{held-next, hears-next, part-next, wrote-next}
use Rattle.lpt_extract.proofs.joining.JoinerTakerHearers.take.Goals as goal

pub returns-clause-taken : goal.returns-clause-taken
returns-clause-taken g c = λ from first old pieces h at.
    let was = c.args.self in
    let w = was.wanted in
    let r = g.J.Joins.reads first.joins in
    let lent = c.args.lent.now in
    let p : Piece = record { kind = c.args.kind; octets = c.args.octets.now } in
    let bs = packets_of pieces in
    let joined = c.in_ok-joins.ensures in
    let done = c.in_ok-take_in_place.ensures in
    let placed = joined.placed first.joins bs h.1 in (
      record {
        same = h.0.same;
        held = held-next w r pieces p from c.args.place at c.take_in_place.new.holding
            (done.held r bs placed _ _ h.0.held);
        hears_is = hears-next w r pieces p from c.args.place at (g.L.Listener.heard old.listener)
            (g.L.Listener.heard lent.listener) (g.L.Listener.heard c.take_in_place.new.listener)
            h.0.hears_is (done.heard r bs placed);
      },
      subst (g.J.Joins.keeps first.joins _) (sym (packets-next pieces p))
          (joined.kept first.joins bs h.1),
      subst (g.J.Joins.tells first.joins old.taker _) (sym (packets-next pieces p))
          (joined.told first.joins old.taker bs h.1 h.2),
    )

pub returns-clause-wrote : goal.returns-clause-wrote
returns-clause-wrote g c = λ from first old pieces start h at before.
    let w = c.args.self.wanted in
    let r = g.J.Joins.reads first.joins in
    let p : Piece = record { kind = c.args.kind; octets = c.args.octets.now } in
    let bs = packets_of pieces in
    let placed = c.in_ok-joins.ensures.placed first.joins bs h.1 in
    let mid = g.K.Sink.contents c.args.out.now in
    let new = g.K.Sink.contents c.take_in_place.new.out in
    subst (λ (v : Wanted). Appends start new
    (written_first v.at (areas_in v (reads r (packets_of (pieces ++ p ∷ [])))))) h.0.same
    (wrote-next w r pieces p start mid new
    (subst (λ (v : Wanted). Appends start mid (written_first v.at (areas_in v (reads r bs))))
    (sym h.0.same) before)
    (c.in_ok-take_in_place.ensures.wrote r bs placed))

-- memory ran out, or the taker failed, and nothing was written of it
pub returns-in_err-joins-clause-part : goal.returns-in_err-joins-clause-part
returns-in_err-joins-clause-part g c = λ from first old pieces start h at before.
    let w = c.args.self.wanted in
    let r = g.J.Joins.reads first.joins in
    let p : Piece = record { kind = c.args.kind; octets = c.args.octets.now } in
    let mid = g.K.Sink.contents c.args.out.now in
    any-err _ c.from_residual.result
    (subst (λ (v : Wanted). AppendsPart start mid
    (written_first v.at (areas_in v (reads r (packets_of (pieces ++ p ∷ [])))))) h.0.same
    (part-next w r pieces p start mid mid
    (subst (λ (v : Wanted). Appends start mid
    (written_first v.at (areas_in v (reads r (packets_of pieces))))) (sym h.0.same) before)
    (part_unchanged mid _)))

-- a front part of it was
pub returns-in_err-take_in_place-clause-part : goal.returns-in_err-take_in_place-clause-part
returns-in_err-take_in_place-clause-part g c = λ from first old pieces start h at before.
    let w = c.args.self.wanted in
    let r = g.J.Joins.reads first.joins in
    let p : Piece = record { kind = c.args.kind; octets = c.args.octets.now } in
    let bs = packets_of pieces in
    let placed = c.in_ok-joins.ensures.placed first.joins bs h.1 in
    let mid = g.K.Sink.contents c.args.out.now in
    let new = g.K.Sink.contents c.take_in_place.new.out in
    any-err _ c.from_residual-in_err-take_in_place.result
    (subst (λ (v : Wanted). AppendsPart start new
    (written_first v.at (areas_in v (reads r (packets_of (pieces ++ p ∷ [])))))) h.0.same
    (part-next w r pieces p start mid new
    (subst (λ (v : Wanted). Appends start mid (written_first v.at (areas_in v (reads r bs))))
    (sym h.0.same) before)
    (c.in_err-take_in_place.ensures.part r bs placed)))
