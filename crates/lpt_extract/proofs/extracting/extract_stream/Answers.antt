-- Nothing was taken of nothing; and at the end what was taken is written.
use Rattle.std.proofs.Common.{◌≡◌, ap, sym, subst, refl, inl, inr, Err}
use Rattle.lpt_stream.specs.Pieces.{packets_of}
use Rattle.lpt_stream.proofs.EndLemmas.{reader-all, writer-all}
use Rattle.lpt_stream.proofs.TakeLemmas.{all-as, leave-all, leave-as}
use Rattle.lpt_text.specs.declared.fault.StreamFault.{StreamFault}
use Rattle.lpt_text.specs.declared.fault.StreamFault.TheVariants as faults
use Rattle.std.specs.Io.KnownBytes.{Appends}
use Rattle.lpt_text.specs.Streams.{AppendsPart}
use Rattle.lpt_extract.specs.Extracts.{areas_in, cut_of, notices_in, written_first, ExtractLeaves, ExtractsTo, LeavesFront}
use Rattle.lpt_extract.specs.ExtractsInside.{written_last, EndsAs, HeldAreas}
use Rattle.lpt_extract.specs.Notices.{Hears}
use Rattle.lpt_extract.specs.declared.wanted.Wanted.{Wanted}
use Rattle.lpt_extract.proofs.GiveLemmas.{ends-by, first-none, hears-nothing, leaves-first, leaves-last}
use Rattle.lpt_extract.proofs.ReadLemmas.{if-ok, if-err, no-read, reads-whole}
use Rattle.lpt_extract.proofs.extracting.extract_stream.Goals as goal

pub take_pieces-requires : goal.take_pieces-requires
take_pieces-requires g c = record {
  taken = record {
    same = refl;
    held = c.new-holding.ensures c.args.wanted.now.at;
    hears_is = hears-nothing (g.L.Listener.heard c.args.listener.now);
  };
  nothing = first-none c.args.wanted.now.at;
}

pub returns-clause-ends : goal.returns-clause-ends
returns-clause-ends g c =
    let w = c.args.wanted.now in
    let old = g.K.Sink.contents c.args.out.now in
    let mid = g.K.Sink.contents c.take_pieces.new.out in
    let new = g.K.Sink.contents c.end_extract.new.out in
    let heard = g.L.Listener.heard c.args.listener.now in
    let hears = g.L.Listener.heard c.take_pieces.new.lent in
    let a = g.S.Source.remaining c.args.source.now in
    let d = g.S.Source.remaining c.take_pieces.new.source in
    let last = c.in-Ok.last in
    let read = reads-whole (cut_of w) a d _ c.in-Ok.ensures.taken in
    let ps = read.1 in
    let taken = read.5.0 in
    let areas = areas_in w (packets_of ps) in
    let held =
    subst (λ (v : Wanted). HeldAreas v.at (areas_in v (packets_of ps)) (notices_in v 0 ps)
    last.holding) taken.same taken.held in
    let told = subst (λ (v : Wanted). Hears heard hears (notices_in v 0 ps)) taken.same
    taken.hears_is in
    if-ok (λ x. EndsAs w.at areas (notices_in w 0 ps) x mid new)
    (λ x. ExtractsTo w x a d old new heard hears) c.end_extract.result
    (λ x as_is. record {
      stream = read.0;
      pieces = ps;
      consumed = read.2;
      at_end = read.3;
      cut = read.4;
      ends = ends-by w.at areas _ x.end old mid new read.5.1 as_is.by;
      missing = as_is.missing;
      clashing = as_is.clashing;
      told = told;
      counted = as_is.counted;
    })
    (c.end_extract.ensures.ends areas (notices_in w 0 ps) held)

pub returns-clause-leaves : goal.returns-clause-leaves
returns-clause-leaves g c =
    let w = c.args.wanted.now in
    let old = g.K.Sink.contents c.args.out.now in
    let mid = g.K.Sink.contents c.take_pieces.new.out in
    let new = g.K.Sink.contents c.end_extract.new.out in
    let a = g.S.Source.remaining c.args.source.now in
    let d = g.S.Source.remaining c.take_pieces.new.source in
    let last = c.in-Ok.last in
    let read = reads-whole (cut_of w) a d _ c.in-Ok.ensures.taken in
    let ps = read.1 in
    let taken = read.5.0 in
    let areas = areas_in w (packets_of ps) in
    let held =
    subst (λ (v : Wanted). HeldAreas v.at (areas_in v (packets_of ps)) (notices_in v 0 ps)
    last.holding) taken.same taken.held in
    if-err (λ e. e ≡ faults.Write) (λ e. AppendsPart mid new (written_last w.at areas))
    (λ e. ExtractLeaves w e a d old new) c.end_extract.result
    (λ e is part.
    leave-all (cut_of w) a d (λ ps. LeavesFront e w.at (areas_in w (packets_of ps)) old new)
    read.0 ps read.2 read.4
    (subst (λ (f : StreamFault). LeavesFront f w.at areas old new) (sym is)
    (leaves-last w.at areas old mid new read.5.1 part)))
    c.end_extract.ensures.fault
    (c.end_extract.ensures.part areas (notices_in w 0 ps) held)

pub returns-clause-reader : goal.returns-clause-reader
returns-clause-reader g c =
    reader-all _ c.end_extract.result _ _ c.end_extract.ensures.fault c.in-Ok.ensures.reader

pub returns-clause-writer : goal.returns-clause-writer
returns-clause-writer g c =
    writer-all c.end_extract.result _ _ _ c.end_extract.ensures.writer c.in-Ok.ensures.writer

-- it wasn't read to its end
pub returns-in-Err-clause-leaves : goal.returns-in-Err-clause-leaves
returns-in-Err-clause-leaves g c =
    let w = c.args.wanted.now in
    let e = c.in-Err.fault in
    let old = g.K.Sink.contents c.args.out.now in
    let new = g.K.Sink.contents c.take_pieces.new.out in
    (leave-as (cut_of w) _ _ _ (λ ps. LeavesFront e w.at (areas_in w (packets_of ps)) old new)
    (λ ps part. leaves-first e w.at (areas_in w (packets_of ps)) old new part.1)
    c.in-Err.ensures.leaves)

pub returns-in-Err-clause-writer : goal.returns-in-Err-clause-writer
returns-in-Err-clause-writer g c =
    (elim c.in-Err.ensures.failed [ inl h ↦ absurd h | inr h ↦ h ])

pub returns-in-Err-clause-settled : goal.returns-in-Err-clause-settled
returns-in-Err-clause-settled g c =
    let w = c.args.wanted.now in
    let old = g.K.Sink.contents c.args.out.now in
    let new = g.K.Sink.contents c.take_pieces.new.out in
    let heard = g.L.Listener.heard c.args.listener.now in
    let hears = g.L.Listener.heard c.take_pieces.new.lent in
    λ read.
    let fault : c.in-Err.fault ≡ faults.Read = cc in
    elim (c.in-Err.ensures.settled (ap Err fault)) [
      | inl h ↦ inl (all-as (cut_of w) _ _ _ (λ ps. Hears heard hears (notices_in w 0 ps)
          × Appends old new (written_first w.at (areas_in w (packets_of ps))))
          (λ ps taken. (
            subst (λ (v : Wanted). Hears heard hears (notices_in v 0 ps)) taken.0.1.same
                taken.0.1.hears_is,
            taken.1,
          )) h)
      | inr h ↦ inr h
    ]

-- the end isn't a read's fault
pub returns-clause-settled : goal.returns-clause-settled
returns-clause-settled g c = λ read.
    absurd (no-read c.end_extract.result c.end_extract.ensures.fault read)
