-- What is listed of a stream.
use Rattle.std.proofs.Common.{◌≡◌, ap, inl, inr, subst, ℕ, true, List, Err}
use Rattle.std.proofs.lemmas.Result.{err_from_is_err_and}
use Rattle.std.proofs.KnownBytes.{Appends-kept}
use Rattle.std.specs.Io.KnownBytes.{Appends}
use Rattle.lpt_text.specs.declared.fault.StreamFault.TheVariants as faults
use Rattle.lpt_text.specs.Streams.{AppendsPart, ReadFails}
use Rattle.lpt_text.proofs.StreamLemmas.{part_whole}
use Rattle.lpt_stream.specs.declared.cut.Cut.{Cut}
use Rattle.lpt_stream.specs.Pieces.{Piece}
use Rattle.lpt_stream.specs.Reads.{IsEndlessBy}
use Rattle.lpt_stream.specs.Takes.{LeavesBy, TakenAll}
use Rattle.lpt_stream.proofs.EndLemmas.{any-err}
use Rattle.lpt_list.specs.Listers.{lines}
use Rattle.lpt_list.specs.Lists.{listing}
use Rattle.lpt_list.proofs.ListLemmas.{read_leaves, taken_as}
use Rattle.lpt_list.proofs.listing.list_stream.Goals as goal

pub take_pieces-requires-clause-taken : goal.take_pieces-requires-clause-taken
take_pieces-requires-clause-taken g c = c.new-first.ensures.none c.args.from

-- a read failed: each line is written that what was read shows
pub returns-in_err-last-clause-settled : goal.returns-in_err-last-clause-settled
returns-in_err-last-clause-settled g c =
    let a = g.P.Peer.remaining c.args.source.now in
    let b = g.P.Peer.remaining c.take_pieces.new.source in
    let old = g.K.Sink.contents c.args.out.now in
    let new = g.K.Sink.contents c.take_pieces.new.out in
    let first = c.new-first.result in
    let said = c.new-first.ensures in
    let same : (pieces : List Piece) → lines c.args.from first pieces
    ≡ listing c.args.form c.args.layouts.now c.args.from true pieces =
    λ pieces i. listing (said.form i) (said.layouts i) c.args.from true pieces in
    let p = err_from_is_err_and c.from_residual.result c.from_residual.ensures.1 in
    λ read.
    let fault : c.in_err-last.field-0.0 ≡ faults.Read = cc in
    elim (c.in_err-last.ensures.settled (ap Err fault)) [
      | inl all ↦ inl (subst (λ (cut : Cut). TakenAll cut a b (λ pieces.
          Appends old new (listing c.args.form c.args.layouts.now c.args.from true pieces)))
          said.cut
          (taken_as first.cut a b _ _ all
          (λ pieces h. subst (λ (l : List ℕ). Appends old new l) (same pieces) h.1)))
      | inr many ↦ inr (subst (λ (cut : Cut). IsEndlessBy cut a b) said.cut many)
    ]

-- it failed as the reading of the pieces did
pub returns-in_err-last-clause-reader : goal.returns-in_err-last-clause-reader
returns-in_err-last-clause-reader g c =
    let a = g.P.Peer.remaining c.args.source.now in
    let b = g.P.Peer.remaining c.take_pieces.new.source in
    let had = g.P.Peer.failed c.args.source.now in
    let failed = g.P.Peer.failed c.take_pieces.new.source in
    let p = err_from_is_err_and c.from_residual.result c.from_residual.ensures.1 in
    rw (p.1, p.2)
    (subst (λ (cut : Cut). ReadFails (IsEndlessBy cut a b) c.in_err-last.field-0.0 had failed)
    c.new-first.ensures.cut c.in_err-last.ensures.reader)

-- what was written last couldn't be passed on
pub returns-in_err-flush_out-clause-leaves : goal.returns-in_err-flush_out-clause-leaves
returns-in_err-flush_out-clause-leaves g c =
    let a = g.P.Peer.remaining c.args.source.now in
    let b = g.P.Peer.remaining c.take_pieces.new.source in
    let old = g.K.Sink.contents c.args.out.now in
    let mid = g.K.Sink.contents c.take_pieces.new.out in
    let new = g.K.Sink.contents c.flush_out.new.out in
    let first = c.new-first.result in
    let said = c.new-first.ensures in
    let same : (pieces : List Piece) → lines c.args.from first pieces
    ≡ listing c.args.form c.args.layouts.now c.args.from true pieces =
    λ pieces i. listing (said.form i) (said.layouts i) c.args.from true pieces in
    any-err _ c.from_residual-in_err-flush_out.result
    (subst (λ (cut : Cut). LeavesBy cut a b (λ pieces.
    AppendsPart old new (listing c.args.form c.args.layouts.now c.args.from true pieces)))
    said.cut
    (read_leaves first.cut a b _ _ _ c.in_ok-last.ensures.taken
    (λ pieces h. subst (λ (l : List ℕ). AppendsPart old new l) (same pieces)
    (part_whole old new _
    (Appends-kept old mid new _ h.1 c.in_err-flush_out.ensures.same)))))
