-- Nothing was taken of nothing; and at the end what was taken is written.
use Rattle.std.proofs.Common.{◌≡◌, ap, sym, subst, refl, inl, inr, [], Err}
use Rattle.std.proofs.lemmas.Result.{err_from_is_err_and}
use Rattle.lpt_text.specs.declared.fault.StreamFault.{StreamFault}
use Rattle.lpt_text.specs.declared.fault.StreamFault.TheVariants as faults
use Rattle.std.specs.Io.KnownBytes.{Appends}
use Rattle.lpt_text.specs.Streams.{AppendsPart}
use Rattle.lpt_text.proofs.StreamLemmas.{part_whole}
use Rattle.lpt_stream.specs.Pieces.{packets_of}
use Rattle.lpt_stream.proofs.EndLemmas.{other-fault, reader-all, reader-kept}
use Rattle.lpt_stream.proofs.TakeLemmas.{all-as, leave-all, leave-as}
use Rattle.lpt_extract.specs.declared.wanted.Wanted.{Wanted}
use Rattle.lpt_extract.specs.Extracts.{areas_in, written_first, LeavesFront}
use Rattle.lpt_extract.specs.ExtractsInside.{written_last, HeldAreas}
use Rattle.lpt_extract.specs.Joined.{joined_in, reads, JoinedLeaves}
use Rattle.lpt_extract.specs.Notices.{Hears}
use Rattle.lpt_extract.proofs.GiveLemmas.{first-none, hears-nothing, leaves-first, leaves-last}
use Rattle.lpt_extract.proofs.JoinedLemmas.{ends-failed, ends-ok, joined-ends, taker-failed}
use Rattle.lpt_extract.proofs.ReadLemmas.{if-ok, if-err, no-read, reads-whole}
use Rattle.lpt_extract.proofs.joining.join_stream.Goals as goal

pub take_pieces-requires : goal.take_pieces-requires
take_pieces-requires g c = record {
  taken = (
    record {
      same = refl;
      held = c.new-holding.ensures c.args.wanted.now.at;
      hears_is = hears-nothing (g.L.Listener.heard c.args.hearers.now.listener);
    },
    c.requires.keeps,
    c.requires.tells,
  );
  nothing = first-none c.args.wanted.now.at;
}

-- it wasn't read to its end
pub returns-in-Err-clause-leaves : goal.returns-in-Err-clause-leaves
returns-in-Err-clause-leaves g c =
    let w = c.args.wanted.now in
    let r = g.J.Joins.reads c.args.joins in
    let e = c.in-Err.fault in
    let old = g.K.Sink.contents c.args.out.now in
    let new = g.K.Sink.contents c.take_pieces.new.out in
    (leave-as (g.J.Joins.cut c.args.joins) _ _ _
    (λ ps. LeavesFront e w.at (areas_in w (reads r (packets_of ps))) old new)
    (λ ps part. leaves-first e w.at (areas_in w (reads r (packets_of ps))) old new part.1)
    c.in-Err.ensures.leaves)

-- the taker failed at what is left
pub returns-in_err-leave-clause-leaves : goal.returns-in_err-leave-clause-leaves
returns-in_err-leave-clause-leaves g c =
    let w = c.args.wanted.now in
    let cut = g.J.Joins.cut c.args.joins in
    let r = g.J.Joins.reads c.args.joins in
    let e = c.in_err-leave.field-0.0 in
    let read = reads-whole cut _ _ _ c.in-Ok.ensures.taken in
    let old = g.K.Sink.contents c.args.out.now in
    let mid = g.K.Sink.contents c.take_pieces.new.out in
    let p = err_from_is_err_and c.from_residual.result
    c.from_residual.ensures.1 in
    rw (p.1, p.2)
    (leave-all cut _ _ (λ ps. LeavesFront e w.at (areas_in w (reads r (packets_of ps))) old mid)
    read.0 read.1 read.2 read.4
    (leaves-first e w.at (areas_in w (reads r (packets_of read.1))) old mid
    (part_whole old mid _ read.5.1)))

pub returns-in_err-leave-clause-reader : goal.returns-in_err-leave-clause-reader
returns-in_err-leave-clause-reader g c =
    let p = err_from_is_err_and c.from_residual.result
    c.from_residual.ensures.1 in
    rw (p.1, p.2)
    (reader-kept _ c.in_err-leave.field-0.0 _ _
    (other-fault c.in_err-leave.field-0.0 c.in_err-leave.ensures.fault) c.in-Ok.ensures.reader)

-- it was read to its end
pub returns-clause-ends : goal.returns-clause-ends
returns-clause-ends g c =
    let w = c.args.wanted.now in
    let r = g.J.Joins.reads c.args.joins in
    let read = reads-whole (g.J.Joins.cut c.args.joins) _ _ _ c.in-Ok.ensures.taken in
    let last = c.in-Ok.last in
    let ps = read.1 in
    let bs = packets_of ps in
    let taken = read.5.0 in
    let first = c.args.hearers.now in
    let old = g.K.Sink.contents c.args.out.now in
    let mid = g.K.Sink.contents c.take_pieces.new.out in
    let new = g.K.Sink.contents c.end_extract.new.out in
    let heard = g.L.Listener.heard first.listener in
    let hears = g.L.Listener.heard c.take_pieces.new.lent.listener in
    let held =
    subst (λ (v : Wanted). HeldAreas v.at (areas_in v (reads r bs)) (joined_in v r [] 0 ps)
    last.holding) taken.0.same taken.0.held in
    let hear = subst (λ (v : Wanted). Hears heard hears (joined_in v r [] 0 ps)) taken.0.same
    taken.0.hears_is in
    if-ok _ _ c.end_extract.result
    (λ x ends. (
      read.0,
      ps,
      read.2,
      read.3,
      read.4,
      (
        joined-ends w r x ps old mid new heard hears read.5.1 hear ends,
        c.in_ok-leave.ensures.told c.args.joins first.taker bs taken.1 taken.2,
      ),
    ))
    (c.end_extract.ensures.ends (areas_in w (reads r bs)) (joined_in w r [] 0 ps) held)

pub returns-clause-leaves : goal.returns-clause-leaves
returns-clause-leaves g c =
    let w = c.args.wanted.now in
    let cut = g.J.Joins.cut c.args.joins in
    let r = g.J.Joins.reads c.args.joins in
    let read = reads-whole cut _ _ _ c.in-Ok.ensures.taken in
    let last = c.in-Ok.last in
    let ps = read.1 in
    let bs = packets_of ps in
    let taken = read.5.0 in
    let old = g.K.Sink.contents c.args.out.now in
    let mid = g.K.Sink.contents c.take_pieces.new.out in
    let new = g.K.Sink.contents c.end_extract.new.out in
    let areas = areas_in w (reads r bs) in
    let held =
    subst (λ (v : Wanted). HeldAreas v.at (areas_in v (reads r bs)) (joined_in v r [] 0 ps)
    last.holding) taken.0.same taken.0.held in
    if-err (λ e. e ≡ faults.Write) (λ e. AppendsPart mid new (written_last w.at areas))
    (λ e. JoinedLeaves cut w r e _ _ old new) c.end_extract.result
    (λ e is part. leave-all cut _ _
    (λ ps. LeavesFront e w.at (areas_in w (reads r (packets_of ps))) old new)
    read.0 ps read.2 read.4
    (subst (λ (f : StreamFault). LeavesFront f w.at areas old new) (sym is)
    (leaves-last w.at areas old mid new read.5.1 part)))
    c.end_extract.ensures.fault
    (c.end_extract.ensures.part areas (joined_in w r [] 0 ps) held)

pub returns-clause-reader : goal.returns-clause-reader
returns-clause-reader g c =
    reader-all _ c.end_extract.result _ _ c.end_extract.ensures.fault c.in-Ok.ensures.reader

-- ---- the writer

pub returns-in_err-leave-clause-failed : goal.returns-in_err-leave-clause-failed
returns-in_err-leave-clause-failed g c =
    let p = err_from_is_err_and c.from_residual.result
    c.from_residual.ensures.1 in
    rw (p.1, p.2)
    (taker-failed c.in_err-leave.field-0.0 (g.K.Sink.failed c.args.out.now)
    (g.K.Sink.failed c.take_pieces.new.out) c.in_err-leave.ensures.fault
    c.in-Ok.ensures.writer)

pub returns-clause-writer : goal.returns-clause-writer
returns-clause-writer g c =
    ends-ok c.end_extract.result _ _ _ c.end_extract.ensures.writer c.in-Ok.ensures.writer

pub returns-clause-failed : goal.returns-clause-failed
returns-clause-failed g c =
    ends-failed c.end_extract.result _ _ _ c.end_extract.ensures.writer c.in-Ok.ensures.writer

-- ---- a read that failed

pub returns-in-Err-clause-settled : goal.returns-in-Err-clause-settled
returns-in-Err-clause-settled g c =
    let w = c.args.wanted.now in
    let r = g.J.Joins.reads c.args.joins in
    let old = g.K.Sink.contents c.args.out.now in
    let new = g.K.Sink.contents c.take_pieces.new.out in
    let first = c.args.hearers.now in
    let lent = c.take_pieces.new.lent in
    let heard = g.L.Listener.heard first.listener in
    let hears = g.L.Listener.heard lent.listener in
    λ read.
    let fault : c.in-Err.fault ≡ faults.Read = cc in
    elim (c.in-Err.ensures.settled (ap Err fault)) [
      | inl h ↦ inl (all-as (g.J.Joins.cut c.args.joins) _ _ _
          (λ ps. Hears heard hears (joined_in w r [] 0 ps)
          × g.J.Joins.tells c.args.joins first.taker lent.taker (packets_of ps)
          × Appends old new (written_first w.at (areas_in w (reads r (packets_of ps)))))
          (λ ps taken. (
            subst (λ (v : Wanted). Hears heard hears (joined_in v r [] 0 ps)) taken.0.1.0.same
                taken.0.1.0.hears_is,
            taken.0.1.2,
            taken.1,
          )) h)
      | inr h ↦ inr h
    ]

pub returns-in_err-leave-clause-settled : goal.returns-in_err-leave-clause-settled
returns-in_err-leave-clause-settled g c =
    let p = err_from_is_err_and c.from_residual.result
    c.from_residual.ensures.1 in
    λ read.
    let fault : c.in_err-leave.field-0.0 ≡ faults.Read = cc in
    absurd (other-fault c.in_err-leave.field-0.0 c.in_err-leave.ensures.fault fault)

pub returns-clause-settled : goal.returns-clause-settled
returns-clause-settled g c = λ read.
    absurd (no-read c.end_extract.result c.end_extract.ensures.fault read)
