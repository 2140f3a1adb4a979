-- A piece more.
use Rattle.std.proofs.Common.{◌≡◌, ◌∙◌, ap, sym, subst, [], ◌∷◌, ◌++◌}
use Rattle.lpt_layout.specs.declared.layout.Layout.{Layout}
use Rattle.lpt_stream.specs.declared.piece_kind.PieceKind.{PieceKind}
use Rattle.lpt_stream.specs.Pieces.{Piece}
use Rattle.lpt_outcomes.specs.Passing.{in_piece}
use Rattle.lpt_outcomes.specs.Requests.{request_in}
use Rattle.lpt_outcomes.proofs.TakeLemmas.{found-more, found-same, passed-more, passed-same}
use Rattle.lpt_outcomes.proofs.requests.RequestTakerTakerUnit.take.Goals as goal

-- one that is no request
pub returns-in-Err-clause-taken : goal.returns-in-Err-clause-taken
returns-in-Err-clause-taken g c = λ from first old pieces h at.
    let p : Piece = record { kind = c.args.kind; octets = c.args.octets.now } in
    let b = c.in-Err.beside in
    let read = request_in first.layout in
    let is = ap (λ (l : Layout). in_piece (request_in l) p.kind p.octets) (sym h.0)
    ∙ sym c.request_in_piece.ensures ∙ c.in-Err.is in (
      h.0,
      h.1 ∙ sym (found-same read pieces p b is),
      passed-more read pieces p b c.count.new.self is (c.count.ensures _ h.2),
    )

-- one that is
pub returns-in-Ok-push-clause-taken : goal.returns-in-Ok-push-clause-taken
returns-in-Ok-push-clause-taken g c = λ from first old pieces h at.
    let p : Piece = record { kind = c.args.kind; octets = c.args.octets.now } in
    let x = c.in-Ok.request in
    let read = request_in first.layout in
    let is = ap (λ (l : Layout). in_piece (request_in l) p.kind p.octets) (sym h.0)
    ∙ sym c.request_in_piece.ensures ∙ c.in-Ok.is in (
      h.0,
      c.in-Ok-push.ensures.items ∙ ap (λ xs. xs ++ x ∷ []) h.1
          ∙ sym (found-more read pieces p x is),
      passed-same read pieces p x c.args.self.passed is h.2,
    )
