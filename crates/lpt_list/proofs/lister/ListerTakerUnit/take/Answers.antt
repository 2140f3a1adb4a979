-- A piece more is listed.
use Rattle.std.proofs.Common.{◌∙◌, refl, subst, List, ℕ}
use Rattle.std.specs.Io.KnownBytes.{Appends}
use Rattle.std.proofs.KnownBytes.{Appends-nil}
use Rattle.lpt_text.specs.Streams.{AppendsPart}
use Rattle.lpt_stream.specs.Pieces.{Piece}
use Rattle.lpt_stream.proofs.EndLemmas.{any-err}
use Rattle.lpt_list.proofs.ListLemmas.{listed_next, part_next, wrote_next}
use Rattle.lpt_list.proofs.lister.ListerTakerUnit.take.Goals as goal

pub returns-clause-taken : goal.returns-clause-taken
returns-clause-taken g c = λ from first old pieces h at.
    let p : Piece = record { kind = c.args.kind; octets = c.args.octets.now } in
    listed_next from c.args.place first c.args.self pieces p h at _ _ refl refl refl refl
    c.goes_on.ensures c.in-Ok.ensures.kind c.tally_with.ensures
    c.stopped_with.ensures

pub returns-clause-wrote : goal.returns-clause-wrote
returns-clause-wrote g c = λ from first old pieces start h at before.
    let p : Piece = record { kind = c.args.kind; octets = c.args.octets.now } in
    let a = g.K.Sink.contents c.args.out.now in
    let b = g.K.Sink.contents c.write_out.new.out in
    wrote_next from c.args.place first c.args.self pieces p h at start a b before
    (subst (λ (l : List ℕ). Appends a b l) (c.as_bytes.ensures.value ∙ c.in-Ok.ensures.line)
    c.in_ok-write_out.ensures.ok)

-- memory ran out, and nothing was written of it
pub returns-in_default-clause-part : goal.returns-in_default-clause-part
returns-in_default-clause-part g c = λ from first old pieces start h at before.
    let p : Piece = record { kind = c.args.kind; octets = c.args.octets.now } in
    let a = g.K.Sink.contents c.args.out.now in
    part_next from c.args.place first c.args.self pieces p h at start a a before
    (0, Appends-nil a)

-- a write failed
pub returns-in_err-write_out-clause-part : goal.returns-in_err-write_out-clause-part
returns-in_err-write_out-clause-part g c = λ from first old pieces start h at before.
    let p : Piece = record { kind = c.args.kind; octets = c.args.octets.now } in
    let a = g.K.Sink.contents c.args.out.now in
    let b = g.K.Sink.contents c.write_out.new.out in
    any-err _ c.from_residual.result
    (part_next from c.args.place first c.args.self pieces p h at start a b before
    (subst (λ (l : List ℕ). AppendsPart a b l) (c.as_bytes.ensures.value ∙ c.in-Ok.ensures.line)
    c.in_err-write_out.ensures.part))
