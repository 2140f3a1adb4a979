-- What was written couldn't be passed on: of an image all was written, and else nothing.
use Rattle.std.proofs.Common.{sym, subst}
use Rattle.lpt_stream.proofs.EndLemmas.{writer-after}
use Rattle.lpt_extract.specs.Extracts.{is_unbroken, AreClashing}
use Rattle.lpt_extract.specs.ExtractsInside.{EndsBy}
use Rattle.lpt_extract.specs.Gaps.{gaps_in}
use Rattle.lpt_extract.specs.Tallies.{IsTally}
use Rattle.lpt_extract.specs.declared.tally.Tally.{Tally}
use Rattle.lpt_extract.proofs.GiveLemmas.{by-kept, clashing-held, missing-held, part-by}
use Rattle.lpt_extract.proofs.ending.end_extract.Goals as goal

pub returns-in-Ok-clause-ends : goal.returns-in-Ok-clause-ends
returns-in-Ok-clause-ends g c = λ areas ns h.
    let at = c.args.wanted.now.at in
    let i = c.args.holding.image in
    let x = c.into_extracted.result in
    let is = c.into_extracted.ensures in
    let old = g.K.Sink.contents c.args.out.now in
    let mid = g.K.Sink.contents c.write_image.new.out in
    record {
      by = by-kept at areas _ x.end old mid (g.K.Sink.contents c.flush_out.new.out)
          (subst (λ e. EndsBy at areas (is_unbroken (gaps_in x.gaps) x.tally.passed) e old mid)
          (sym is.end)
          (subst (λ (t : Tally). EndsBy at areas (is_unbroken (gaps_in x.gaps) t.passed)
          c.in_ok-end.end old mid) (sym is.tally)
          (subst (λ gs. EndsBy at areas (is_unbroken gs c.args.holding.tally.passed)
          c.in_ok-end.end old mid) (sym is.gaps)
          (c.in_ok-end.ensures.ends areas h.image)))) c.flush_out.ensures.same;
      missing = missing-held at areas i (gaps_in x.gaps) is.gaps h.image;
      clashing = subst (AreClashing at areas) (sym is.clashes) (clashing-held at areas i h.image);
      counted = subst (IsTally ns) (sym is.tally) h.counted;
    }

pub returns-in-Err-clause-part : goal.returns-in-Err-clause-part
returns-in-Err-clause-part g c = λ areas ns h.
    part-by c.args.wanted.now.at areas _ c.in_ok-end.end (g.K.Sink.contents c.args.out.now)
    (g.K.Sink.contents c.write_image.new.out) (g.K.Sink.contents c.flush_out.new.out)
    (c.in_ok-end.ensures.ends areas h.image) c.flush_out.ensures.same

pub returns-in-Err-clause-writer : goal.returns-in-Err-clause-writer
returns-in-Err-clause-writer g c =
    writer-after c.in-Err.fault _ _ _ c.in-Err.ensures.writer c.in_ok-end.ensures.writer
