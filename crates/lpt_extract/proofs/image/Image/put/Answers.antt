-- The image of the areas, and of one more.
use Rattle.std.proofs.Common.{◌≡◌, ◌∙◌, ap, sym, subst, ◌-◌, ◌++◌, ◌∷◌, [], length, max, drop, replicate, arith}
use Rattle.lpt_memory.specs.declared.request.Area.{Area}
use Rattle.lpt_memory.specs.Memories.{put_at}
use Rattle.lpt_extract.specs.Areas.{end_of, extent}
use Rattle.lpt_extract.specs.ClashesInside.{Tells}
use Rattle.lpt_extract.specs.CoversInside.{Covers}
use Rattle.lpt_extract.specs.Gaps.{gaps_in, is_given, AreGaps}
use Rattle.lpt_extract.specs.ImagesInside.{octets_of_image}
use Rattle.lpt_extract.proofs.ContradictLemmas.{tells-more}
use Rattle.lpt_extract.proofs.ImageLemmas.{extent-more, image-more}
use Rattle.lpt_extract.proofs.PartLemmas.{ascend}
use Rattle.lpt_extract.proofs.image.Image.put.Goals as goal

-- it is too large
pub returns-in_default : goal.returns-in_default
returns-in_default c = λ areas h.
    let a : Area = record { address = c.args.address; octets = c.args.octets.now } in
    let covers = subst (λ n. Covers n (areas ++ a ∷ []) c.add.new.self) c.from.ensures
    (c.in_ok-add.ensures.gaps areas a (omega arith) (omega arith)
    (subst (λ n. Covers n areas c.args.self.now.cover) (sym c.from.ensures) h.covers)) in
    record {
      covers = covers;
      octets_are = λ fits. absurd (omega (arith, covers.end_is, fits, c.in_default.ensures));
      clashes_are = λ fits. absurd (omega (arith, covers.end_is, fits, c.in_default.ensures));
    }

-- the area was put over it
pub returns : goal.returns
returns c = λ areas h.
    let a : Area = record { address = c.args.address; octets = c.args.octets.now } in
    let from = c.args.place.now.from in
    let fill = c.args.place.now.fill in
    let old = octets_of_image c.args.self.now in
    let covers = subst (λ n. Covers n (areas ++ a ∷ []) c.add.new.self) c.from.ensures
    (c.in_ok-add.ensures.gaps areas a (omega arith) (omega arith)
    (subst (λ n. Covers n areas c.args.self.now.cover) (sym c.from.ensures) h.covers)) in
    let more = extent-more areas a in
    let size : c.in-Some.size ≡ max (extent areas) (end_of a) - from =
    c.in-Some.ensures.0 ∙ ap (λ e. e - from) (covers.end_is ∙ more) in
    record {
      covers = subst (Covers from (areas ++ a ∷ [])) (sym (c.lay.ensures.cover ∙ c.in_ok-grow.ensures.cover)) covers;
      octets_are = λ fits.
          let was = h.octets_are (omega (arith, fits, more)) in
          c.lay.ensures.octets
          ∙ ap (λ o. put_at o (a.address - from) (drop (from - a.address) a.octets)) (
          c.in_ok-grow.ensures.octets
          ∙ ap (λ n. old ++ replicate (n - length old) fill) size
          )
          ∙ image-more from fill areas a old was;
      clashes_are = λ fits.
          let was = h.octets_are (omega (arith, fits, more)) in
          let told = h.clashes_are (omega (arith, fits, more)) in
          let gaps = gaps_in c.gaps.result.now in
          let are = subst (AreGaps (is_given areas) from (extent areas)) (sym c.gaps.ensures)
          h.covers.gaps_are in
          subst (Tells from (areas ++ a ∷ []))
          (sym (c.lay.ensures.clashes ∙ c.in_ok-grow.ensures.clashes))
          (tells-more from fill areas a c.deref.result.now gaps (c.deref.ensures.value ∙ was) are
          c.args.self.now.clashes c.note.new.self told
          (c.in_ok-note.ensures told.told (ascend (is_given areas) from (extent areas) gaps are)
          told.covers));
    }
