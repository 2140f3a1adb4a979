-- An area more was taken, or a front part of it was written.
use Rattle.std.proofs.Common.{◌≡◌, ◌∙◌, ap, sym, subst, arith, ◌+◌, ◌++◌, ◌∷◌, [], take, drop}
use Rattle.std.proofs.lemmas.List.{take_all}
use Rattle.std.specs.Io.KnownBytes.{Appends}
use Rattle.lpt_text.specs.Streams.{AppendsPart}
use Rattle.lpt_stream.proofs.EndLemmas.{writer-after}
use Rattle.lpt_extract.specs.Extracts.{written_first}
use Rattle.lpt_extract.specs.ExtractsInside.{areas_given, told_of}
use Rattle.lpt_extract.specs.Notices.{Hears}
use Rattle.lpt_extract.proofs.GiveLemmas.{given-more, given-split, told-more, held-as, held-more, hears-more, part-before, part-more, wrote-more}
use Rattle.lpt_extract.proofs.taking.take_areas.Goals as goal

pub returns-in-Err-clause-part : goal.returns-in-Err-clause-part
returns-in-Err-clause-part g c =
    let at = c.args.wanted.now.at in
    let xs = c.args.areas.now in
    let i = c.loop-seen.seen-index in
    let x = c.seen-item.result in
    let old = g.K.Sink.contents c.args.out.now in
    let mid = g.K.Sink.contents c.loop-seen.out in
    let new = g.K.Sink.contents c.take_area.new.out in
    let more : areas_given (take i xs) ++ areas_given (x ∷ []) ≡ areas_given (take (i + 1) xs) =
    ap (λ y. areas_given (take i xs) ++ areas_given (y ∷ [])) c.seen-item.is
    ∙ sym (given-more xs i x c.loop-seen-test.true) in
    subst (λ areas. AppendsPart old new (written_first at areas)) (given-split (i + 1) xs)
    (part-before at old new (areas_given (take (i + 1) xs)) (areas_given (drop (i + 1) xs))
    (subst (λ areas. AppendsPart old new (written_first at areas)) more
    (part-more at old mid new (areas_given (take i xs)) (areas_given (x ∷ []))
    c.loop-seen.invariant.wrote c.in-Err.ensures.part)))

pub returns-in-Err-clause-writer : goal.returns-in-Err-clause-writer
returns-in-Err-clause-writer g c =
    writer-after c.in-Err.fault _ _ _ c.in-Err.ensures.writer c.loop-seen.invariant.writer

pub loop-seen-preserved : goal.loop-seen-preserved
loop-seen-preserved g c =
    let at = c.args.wanted.now.at in
    let xs = c.args.areas.now in
    let i = c.loop-seen.seen-index in
    let x = c.seen-item.result in
    let m = c.args.memory in
    let n = c.args.place in
    let more : areas_given (take (i + 1) xs) ≡ areas_given (take i xs) ++ areas_given (x ∷ []) =
    given-more xs i x c.loop-seen-test.true
    ∙ ap (λ y. areas_given (take i xs) ++ areas_given (y ∷ [])) (sym c.seen-item.is) in
    let told : told_of m n (take (i + 1) xs) ≡ told_of m n (take i xs) ++ told_of m n (x ∷ []) =
    told-more m n xs i x c.loop-seen-test.true ∙ ap (λ y. told_of m n (take i xs) ++ told_of m n (y ∷ [])) (sym c.seen-item.is) in
    record {
      held = λ before ns h.
          held-more at before (areas_given (take i xs)) (areas_given (x ∷ []))
          (areas_given (take (i + 1) xs)) ns
          (told_of m n (take i xs)) (told_of m n (x ∷ [])) (told_of m n (take (i + 1) xs))
          c.take_area.new.holding more told
          (c.in-Ok.ensures.held (before ++ areas_given (take i xs)) (ns ++ told_of m n (take i xs))
          (c.loop-seen.invariant.held before ns h));
      wrote = subst (λ areas. Appends (g.K.Sink.contents c.args.out.now) (g.K.Sink.contents c.take_area.new.out)
          (written_first at areas)) (sym more)
          (wrote-more at (g.K.Sink.contents c.args.out.now) (g.K.Sink.contents c.loop-seen.out)
          (g.K.Sink.contents c.take_area.new.out) (areas_given (take i xs)) (areas_given (x ∷ []))
          c.loop-seen.invariant.wrote c.in-Ok.ensures.wrote);
      heard = subst (Hears (g.L.Listener.heard c.args.listener.now) (g.L.Listener.heard c.take_area.new.listener))
          (sym told)
          (hears-more (g.L.Listener.heard c.args.listener.now) (g.L.Listener.heard c.loop-seen.listener)
          (g.L.Listener.heard c.take_area.new.listener) (told_of m n (take i xs)) (told_of m n (x ∷ []))
          c.loop-seen.invariant.heard c.in-Ok.ensures.heard);
      writer = c.in-Ok.ensures.writer ∙ c.loop-seen.invariant.writer;
    }

pub returns-clause-held : goal.returns-clause-held
returns-clause-held g c = λ before ns h.
    let xs = c.args.areas.now in
    let all : take c.loop-seen.seen-index xs ≡ xs = take_all c.loop-seen.seen-index xs (omega arith) in
    held-as c.args.wanted.now.at _ _ _ _ c.loop-seen.holding
    (ap (λ ys. before ++ areas_given ys) all)
    (ap (λ ys. ns ++ told_of c.args.memory c.args.place ys) all)
    (c.loop-seen.invariant.held before ns h)
