use Rattle.std.proofs.Common.{◌∙◌, ◌++◌, [], None, Some, Ok, ap, subst, inl, inr, arith, append-nil}
use Rattle.std.proofs.lemmas.Grind.{common_steps}
use Rattle.std.proofs.KnownBytes.{Keeps-trans}
use Rattle.lpt_text.specs.Lines.{octets_held, line_end, Fills}
use Rattle.lpt_text.proofs.LineLemmas.{line_end-from, line_end-none, line_end-rest, line_end-kept, adds-more, fill-fault}
use Rattle.lpt_text.proofs.lines.LineBuffer.find_line.Goals as goal

-- a line end is held
pub returns-in-Some-clause-finds : goal.returns-in-Some-clause-finds
returns-in-Some-clause-finds g c =
    let text = octets_held c.loop-place.self in
    let here = line_end-rest c.octets_held.result.now text c.loop-place.searched
    (Some c.in-Some.place) c.octets_held.ensures c.in-Some.ensures.at in (
      c.loop-place.invariant.added.0,
      c.loop-place.invariant.added.1,
      line_end-from text c.loop-place.searched c.in-Some.place c.loop-place.invariant.within
          c.loop-place.invariant.none here,
      grind (arith, common_steps),
      c.loop-place.invariant.told,
    )

-- so much is held without one that the line is too long
pub returns-then-searched-gt-LONGEST_LINE-clause-finds :
    goal.returns-then-searched-gt-LONGEST_LINE-clause-finds
returns-then-searched-gt-LONGEST_LINE-clause-finds g c =
    let text = octets_held c.loop-place.self in
    let here =
    line_end-rest c.octets_held.result.now text c.loop-place.searched None c.octets_held.ensures
    c.in-None.ensures.at in (
      c.loop-place.invariant.added.0,
      c.loop-place.invariant.added.1,
      line_end-none text c.loop-place.searched c.loop-place.invariant.none here,
      inr (grind (arith, common_steps)),
      c.loop-place.invariant.told,
    )

-- the text is at its end
pub returns-then-not-more-clause-finds : goal.returns-then-not-more-clause-finds
returns-then-not-more-clause-finds g c =
    let text = octets_held c.loop-place.self in
    let here =
    line_end-rest c.octets_held.result.now text c.loop-place.searched None c.octets_held.ensures
    c.in-None.ensures.at in
    let a = g.S.Source.remaining c.args.source.now in
    let b = g.S.Source.remaining c.loop-place.source in
    let d = g.S.Source.remaining c.fill.new.source in
    let added = c.loop-place.invariant.added in
    let ends =
    subst (λ more. Fills (Ok more) c.loop-place.self c.fill.new.self b d
    (g.S.Source.failed c.loop-place.source)
    (g.S.Source.failed c.fill.new.source)) c.if-not-more.true c.in-Ok.ensures in (
      added.0 ++ [],
      adds-more c.args.self.now c.loop-place.self c.fill.new.self a b d added.0 [] [] added.1
          ends.0,
      ap line_end (ends.0.behind ∙ append-nil text)
          ∙ line_end-none text c.loop-place.searched c.loop-place.invariant.none here,
      inl ends.1,
      ends.2 ∙ c.loop-place.invariant.told,
    )

-- more was read
pub loop-place-preserved : goal.loop-place-preserved
loop-place-preserved g c =
    let text = octets_held c.loop-place.self in
    let here =
    line_end-rest c.octets_held.result.now text c.loop-place.searched None c.octets_held.ensures
    c.in-None.ensures.at in
    let a = g.S.Source.remaining c.args.source.now in
    let b = g.S.Source.remaining c.loop-place.source in
    let d = g.S.Source.remaining c.fill.new.source in
    let added = c.loop-place.invariant.added in
    let more =
    subst (λ more. Fills (Ok more) c.loop-place.self c.fill.new.self b d
    (g.S.Source.failed c.loop-place.source)
    (g.S.Source.failed c.fill.new.source)) c.if-not-more.false c.in-Ok.ensures in
    let kept = line_end-kept c.octets_held-searched.result.now text more.0
    (octets_held c.fill.new.self) c.octets_held-searched.ensures more.1.behind
    (line_end-none text c.loop-place.searched c.loop-place.invariant.none here) in
    record {
      added = (
        added.0 ++ more.0,
        adds-more c.args.self.now c.loop-place.self c.fill.new.self a b d
            added.0 more.0 [] added.1 more.1,
      );
      told = more.3 ∙ c.loop-place.invariant.told;
      same = Keeps-trans (g.K.Sink.contents c.args.out.now) (g.K.Sink.contents c.loop-place.out)
          (g.K.Sink.contents c.flush_out.new.out)
          c.loop-place.invariant.same c.in_ok-flush_out.ensures.same;
      passed = inr c.in_ok-flush_out.ensures.all;
      written = c.in_ok-flush_out.ensures.writer ∙ c.loop-place.invariant.written;
      within = kept.0;
      none = kept.1;
    }

-- a read failed, or was cut
pub returns-in-Err-clause-finds : goal.returns-in-Err-clause-finds
returns-in-Err-clause-finds g c =
    let text = octets_held c.loop-place.self in
    let here =
    line_end-rest c.octets_held.result.now text c.loop-place.searched None c.octets_held.ensures
    c.in-None.ensures.at in
    fill-fault c.in-Err.fault c.args.self.now c.loop-place.self c.fill.new.self
    (g.S.Source.remaining c.args.source.now) (g.S.Source.remaining c.loop-place.source)
    (g.S.Source.remaining c.fill.new.source)
    c.loop-place.invariant.added.0 (g.S.Source.failed c.args.source.now)
    (g.S.Source.failed c.loop-place.source) (g.S.Source.failed c.fill.new.source)
    c.loop-place.invariant.added.1
    (line_end-none text c.loop-place.searched c.loop-place.invariant.none here)
    (grind (arith, common_steps))
    c.loop-place.invariant.told c.in-Err.ensures
