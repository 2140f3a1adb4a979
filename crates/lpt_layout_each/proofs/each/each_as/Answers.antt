-- The stream is at its end, and what is left was told; or a fault ended it.
use Rattle.std.proofs.Common.{◌≡◌, ap, inl, inr, refl, subst, Bool, Err}
use Rattle.std.proofs.lemmas.Result.{err_from_is_err_and}
use Rattle.lpt_carried.specs.declared.wanted.Wanted.{Wanted}
use Rattle.lpt_carried.specs.Tallies.{skips_of}
use Rattle.lpt_text.specs.declared.fault.StreamFault.TheVariants as faults
use Rattle.lpt_stream.specs.Pieces.{packets_of}
use Rattle.lpt_stream.proofs.EndLemmas.{any-err, other-fault, reader-kept}
use Rattle.lpt_stream.proofs.TakeLemmas.{all-as, leave-all, leave-as}
use Rattle.lpt_carried.specs.Carried.{cut}
use Rattle.lpt_layout_each.specs.Helds.{HoldsEach}
use Rattle.lpt_layout_each.specs.News.{Hears}
use Rattle.lpt_layout_each.specs.Streams.{Tells, TellsPart, events}
use Rattle.lpt_layout_each.proofs.EachLemmas.{reads-cut, told-all, told-first}
use Rattle.lpt_layout_each.proofs.TellLemmas.{hears-nothing, part-all, part-more}
use Rattle.lpt_layout_each.proofs.each.each_as.Goals as goal

-- nothing has come
pub take_pieces-requires-clause-taken : goal.take_pieces-requires-clause-taken
take_pieces-requires-clause-taken g c = (
  refl,
  record {
    same = refl;
    same_any = refl;
    all = refl;
    held = c.new.ensures c.args.reading.now c.args.any;
    told = hears-nothing (g.T.TakerAs.heard c.args.taker.now);
    skips_are = c.new-2.ensures;
  },
)

-- the stream is at its end, and what is left was told
pub returns-clause-told : goal.returns-clause-told
returns-clause-told g c =
    let read = reads-cut (cut c.args.reading.now) _ _ _ c.in_ok-last.ensures.taken in
    let last = c.in_ok-last.last in
    let h = read.5.0.1 in
    let bs = packets_of read.1 in
    let heard = g.T.TakerAs.heard c.args.taker.now in
    let hear = g.T.TakerAs.heard c.take_pieces.new.lent in
    let hears = g.T.TakerAs.heard c.leave_as.new.taker in (
      read.0,
      read.1,
      read.2,
      read.3,
      read.4,
      (
        subst (λ (w : Wanted). Tells w.reading c.args.any bs heard hears) h.same
            (subst (λ (any : Bool). Tells last.wanted.reading any bs heard hears) h.same_any
            (told-all last.wanted.reading last.any heard hear hears bs h.told
            (c.in_ok-leave_as.ensures.told last.wanted.reading last.any bs h.held))),
        subst (λ (w : Wanted). last.skips ≡ skips_of w read.1) h.same h.skips_are,
      ),
    )

-- the taker failed at the end
pub returns-in_err-leave_as-clause-reader : goal.returns-in_err-leave_as-clause-reader
returns-in_err-leave_as-clause-reader g c =
    let e = c.in_err-leave_as.field-0.0 in
    let p = err_from_is_err_and c.from_residual-in_err-leave_as.result
    c.from_residual-in_err-leave_as.ensures.1 in
    rw (p.1, p.2)
    (reader-kept _ e _ _ (other-fault e c.in_err-leave_as.ensures.fault)
    c.in_ok-last.ensures.reader)

pub returns-in_err-leave_as-clause-leaves : goal.returns-in_err-leave_as-clause-leaves
returns-in_err-leave_as-clause-leaves g c =
    let r = c.args.reading.now in
    let any = c.args.any in
    let read = reads-cut (cut r) _ _ _ c.in_ok-last.ensures.taken in
    let last = c.in_ok-last.last in
    let h = read.5.0.1 in
    let bs = packets_of read.1 in
    let heard = g.T.TakerAs.heard c.args.taker.now in
    let hear = g.T.TakerAs.heard c.take_pieces.new.lent in
    let hears = g.T.TakerAs.heard c.leave_as.new.taker in
    let holds = subst (λ (w : Wanted). HoldsEach w.reading any bs last.helds) h.same
    (subst (λ (any : Bool). HoldsEach last.wanted.reading any bs last.helds) h.same_any h.held) in
    let left = c.in_err-leave_as.ensures.left r any bs holds in
    any-err _ c.from_residual-in_err-leave_as.result
    (leave-all (cut r) _ _ (λ ps. TellsPart r any (packets_of ps) heard hears) read.0 read.1 read.2
    read.4
    (inr (
      left.0,
      left.1,
      part-more heard hear hears (events r any bs) left.0
          (told-first _ last heard hear read.1 h) left.2,
    )))

pub returns-in_err-leave_as-clause-settled : goal.returns-in_err-leave_as-clause-settled
returns-in_err-leave_as-clause-settled g c = λ read.
    let e = c.in_err-leave_as.field-0.0 in
    let p = err_from_is_err_and c.from_residual-in_err-leave_as.result
    c.from_residual-in_err-leave_as.ensures.1 in
    let is = p.1 in
    let same = p.2 in
    let fault : e ≡ faults.Read = cc in
    absurd (other-fault e c.in_err-leave_as.ensures.fault fault)

-- it wasn't read to its end
pub returns-in_err-last-clause-leaves : goal.returns-in_err-last-clause-leaves
returns-in_err-last-clause-leaves g c =
    let r = c.args.reading.now in
    let any = c.args.any in
    let heard = g.T.TakerAs.heard c.args.taker.now in
    let hears = g.T.TakerAs.heard c.take_pieces.new.lent in
    any-err _ c.from_residual.result
    (leave-as (cut r) _ _ _ (λ ps. TellsPart r any (packets_of ps) heard hears)
    (λ ps p. inl (elim p.0 [
      | inl h ↦ part-all heard hears _ (told-first _ h.0 heard hears ps h.1.1)
      | inr h ↦ h
    ]))
    c.in_err-last.ensures.leaves)

pub returns-in_err-last-clause-settled : goal.returns-in_err-last-clause-settled
returns-in_err-last-clause-settled g c = λ read.
    let r = c.args.reading.now in
    let any = c.args.any in
    let heard = g.T.TakerAs.heard c.args.taker.now in
    let hears = g.T.TakerAs.heard c.take_pieces.new.lent in
    let p = err_from_is_err_and c.from_residual.result c.from_residual.ensures.1 in
    let is = p.1 in
    let same = p.2 in
    let fault : c.in_err-last.field-0.0 ≡ faults.Read = cc in
    elim (c.in_err-last.ensures.settled (ap Err fault)) [
      | inl h ↦ inl (all-as (cut r) _ _ _ (λ ps. Hears heard hears (events r any (packets_of ps)))
          (λ ps p. told-first _ p.0.0 heard hears ps p.0.1.1) h)
      | inr h ↦ inr h
    ]

pub returns-in_err-last-clause-reader : goal.returns-in_err-last-clause-reader
returns-in_err-last-clause-reader g c =
    let p = err_from_is_err_and c.from_residual.result c.from_residual.ensures.1 in
    rw (p.1, p.2) c.in_err-last.ensures.reader
