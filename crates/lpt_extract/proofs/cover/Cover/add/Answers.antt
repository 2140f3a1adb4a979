-- The area stands behind all others, or it doesn't.
use Rattle.std.proofs.Common.{◌∙◌, ap, sym, ◌-◌, ◌<◌, ◌++◌, ◌∷◌, [], max, flat_map, arith}
use Rattle.lpt_extract.specs.declared.cover.Cover.{Cover}
use Rattle.lpt_extract.specs.Areas.{end_of, extent}
use Rattle.lpt_extract.specs.CoversInside.{cut, gaps_of}
use Rattle.lpt_extract.specs.Gaps.{is_given}
use Rattle.lpt_extract.proofs.CoverLemmas.{covers-cut, covers-push}
use Rattle.lpt_extract.proofs.EntryLemmas.{gaps_at, goes_last}
use Rattle.lpt_extract.proofs.PartLemmas.{ascend}
use Rattle.lpt_extract.proofs.cover.Cover.add.Goals as goal
use Rattle.lpt_extract.proofs.cover.Cover.add.Goals.{then-reach-first+in_ok-insert, else-reach-first+in_ok-cut}

pub returns-clause-gaps : goal.returns-clause-gaps
returns-clause-gaps c = λ areas a at to was.
    let old = c.args.self.now in
    let new : Cover = record { end = c.max-self.result; gaps = c.if-reach-first.self.gaps } in
    let some : a.address < end_of a = omega (arith, at, to, c.requires) in
    elim c.if-reach-first.branch [
      | then-reach-first+in_ok-insert w ↦
          covers-push areas a c.args.from old new was some
          (c.max-self.ensures ∙ ap (λ (s : Cover). max s.end c.args.end) w.self-is
          ∙ ap (max old.end) (sym to))
          (omega (arith, at, w.if-reach-first.true, c.max-reach.ensures))
          (ap gaps_of w.self-is ∙ ap gaps_at w.in_ok-insert.ensures.entries
          ∙ goes_last (is_given areas) c.args.from (extent areas)
          c.max-reach.result (c.args.first - 1)
          old.gaps.entries was.gaps_are (omega (arith, c.max-reach.ensures, was.end_is))
          ∙ (λ i. gaps_of old
          ++ record { first = c.max-reach.ensures i; last = sym at i - 1 } ∷ []))
      | else-reach-first+in_ok-cut w ↦
          covers-cut areas a c.args.from old new was some
          (c.max-self.ensures ∙ ap (λ (s : Cover). max s.end c.args.end) w.self-is
          ∙ ap (λ e. max e c.args.end) w.in_ok-cut.ensures.end ∙ ap (max old.end) (sym to))
          (omega (arith, at, w.if-reach-first.false, c.max-reach.ensures))
          (ap gaps_of w.self-is ∙ w.in_ok-cut.ensures.gaps
          (ascend (is_given areas) c.args.from (extent areas) (gaps_of old) was.gaps_are)
          ∙ (λ i. flat_map (cut (sym at i) (sym to i)) (gaps_of old)))
    ]
