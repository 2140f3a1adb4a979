-- The files are those of what was heard, and the counts are right.
use Rattle.std.proofs.Common.{◌≡◌, ◌∙◌, Bool, false, ap, if◌then◌else◌}
use Rattle.lpt_carried.specs.declared.name.Name.{Name}
use Rattle.lpt_carried.specs.Carried.{same_name}
use Rattle.lpt_layout_each.specs.Told.{news_of}
use Rattle.lpt_layout_each.specs.Files.{front_of}
use Rattle.lpt_layout_each.proofs.CountLemmas.{count-here, counts-more, counts-same}
use Rattle.lpt_layout_each.proofs.TakeLemmas.{filed-next, path-front}
use Rattle.lpt_layout_each.proofs.writing.FilingTakerAs.take.Goals as goal

pub invariant_of-self-then-gives : goal.invariant_of-self-then-gives
invariant_of-self-then-gives g c =
    let t = c.args.self.now in
    let w = news_of c.args.news.now in
    record {
      filed = filed-next (front_of t.folder.now t.direction) c.args.name w _ _
          (g.S.Shelf.heard t.shelf) _ _ _ c.in_ok-take.ensures.heard c.in_ok-take.ensures.made
          (c.as_str.ensures.value ∙ c.in_ok-path.ensures
          ∙ path-front t.folder.now t.direction c.args.name _)
          (count-here (g.S.Shelf.heard t.shelf) c.args.name _ _ c.count_of-before.ensures
          (t.counted c.args.name)) t.filed;
      counted = counts-more t.counts c.raise.new.counts c.args.name w (g.S.Shelf.heard t.shelf) _ _
          c.in_ok-take.ensures.heard
          (c.gives.ensures ∙ ap (λ (b : Bool). if b then 1 else 0) c.if-gives.true)
          c.count_of-before.ensures (c.raise.ensures.its ∙ c.in-Some.ensures.1)
          (λ (n : Name) (other : same_name c.args.name n ≡ false).
          c.raise.ensures.others n other ∙ c.note.ensures.same n) t.counted;
    }

pub invariant_of-self-else-gives : goal.invariant_of-self-else-gives
invariant_of-self-else-gives g c =
    let t = c.args.self.now in
    let w = news_of c.args.news.now in
    record {
      filed = filed-next (front_of t.folder.now t.direction) c.args.name w _ _
          (g.S.Shelf.heard t.shelf) _ _ _ c.in_ok-take.ensures.heard c.in_ok-take.ensures.made
          (c.as_str.ensures.value ∙ c.in_ok-path.ensures
          ∙ path-front t.folder.now t.direction c.args.name _)
          (count-here (g.S.Shelf.heard t.shelf) c.args.name _ _ c.count_of-before.ensures
          (t.counted c.args.name)) t.filed;
      counted = counts-same t.counts c.note.new.counts c.args.name w (g.S.Shelf.heard t.shelf) _
          c.in_ok-take.ensures.heard
          (c.gives.ensures ∙ ap (λ (b : Bool). if b then 1 else 0) c.if-gives.false)
          c.note.ensures.same t.counted;
    }
