-- A piece more.
use Rattle.std.proofs.Common.{◌≡◌, ◌∙◌, ap}
use Rattle.lpt_layout.specs.declared.layout.Layout.{Layout}
use Rattle.lpt_stream.specs.Pieces.{Piece}
use Rattle.lpt_stream.proofs.EndLemmas.{any-err}
use Rattle.lpt_outcomes.specs.Opened.{left_by, open_in}
use Rattle.lpt_outcomes.specs.Passing.{in_piece}
use Rattle.lpt_outcomes.specs.Requests.{request_in}
use Rattle.lpt_outcomes.proofs.OpenLemmas.{left-more, part-more, wrote-more}
use Rattle.lpt_outcomes.proofs.opened.OpenTakerTakerUnit.take.Goals as goal

pub returns-clause-taken : goal.returns-clause-taken
returns-clause-taken g c = λ from first old pieces h at.
    let p : Piece = record { kind = c.args.kind; octets = c.args.octets.now } in
    let l = first.layout.now in
    let mine = c.args.self.rest.now in (
      h.0,
      c.open_piece.ensures.rest
          ∙ ap (λ (l : Layout). left_by mine (in_piece (request_in l) p.kind p.octets)) h.0
          ∙ left-more l first.rest.now mine pieces p h.1,
    )

pub returns-clause-wrote : goal.returns-clause-wrote
returns-clause-wrote g c = λ from first old pieces start h at before.
    let p : Piece = record { kind = c.args.kind; octets = c.args.octets.now } in
    let a = g.K.Sink.contents c.args.out.now in
    let b = g.K.Sink.contents c.write_out.new.out in
    let mine = c.args.self.rest.now in
    wrote-more first.layout.now first.rest.now mine pieces p h.1 start a b _ before
    (c.open_piece.ensures.open
    ∙ ap (λ (l : Layout). open_in mine (in_piece (request_in l) p.kind p.octets) p.octets) h.0)
    c.in_ok-write_out.ensures.ok

-- a write failed
pub returns-in_err-write_out-clause-part : goal.returns-in_err-write_out-clause-part
returns-in_err-write_out-clause-part g c = λ from first old pieces start h at before.
    let p : Piece = record { kind = c.args.kind; octets = c.args.octets.now } in
    let a = g.K.Sink.contents c.args.out.now in
    let b = g.K.Sink.contents c.write_out.new.out in
    let mine = c.args.self.rest.now in
    any-err _ c.from_residual.result
    (part-more first.layout.now first.rest.now mine pieces p h.1 start a b _ before
    (c.open_piece.ensures.open
    ∙ ap (λ (l : Layout). open_in mine (in_piece (request_in l) p.kind p.octets) p.octets) h.0)
    c.in_err-write_out.ensures.part)
