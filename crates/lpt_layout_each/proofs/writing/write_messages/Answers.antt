-- The files are those of what the packets tell.
use Rattle.std.proofs.Common.{◌≡◌, inl, inr}
use Rattle.lpt_carried.specs.Tallies.{skips_of}
use Rattle.lpt_stream.specs.Pieces.{packets_of}
use Rattle.lpt_stream.proofs.TakeLemmas.{all-as, leave-as}
use Rattle.lpt_carried.specs.Carried.{cut}
use Rattle.lpt_layout_each.specs.Streams.{any_of, events}
use Rattle.lpt_layout_each.specs.Files.{front_of}
use Rattle.lpt_layout_each.proofs.EndLemmas.{err-so, ok-so}
use Rattle.lpt_layout_each.proofs.WholeLemmas.{files-all, files-are, files-left-part}
use Rattle.lpt_layout_each.proofs.writing.write_messages.Goals as goal

pub returns-clause-made : goal.returns-clause-made
returns-clause-made g c =
    let r = c.args.reading.now in
    let any = c.args.any in
    let last = c.each_as-ended.new.taker in
    let first = g.S.Shelf.heard c.args.shelf in
    ok-so (cut r) _ _ _ _ (λ skips ps. skips ≡ skips_of (any_of r) ps) _
    (λ ps h. files-all (front_of c.args.folder.now r.direction)
    (front_of last.folder.now last.direction) (g.S.Shelf.files c.args.shelf)
    (g.S.Shelf.files last.shelf) r any (packets_of ps) first (g.S.Shelf.heard last.shelf)
    c.requires.fresh last.filed h)
    c.each_as-ended.ensures.told

pub returns-clause-leaves : goal.returns-clause-leaves
returns-clause-leaves g c =
    let r = c.args.reading.now in
    let any = c.args.any in
    let last = c.each_as-ended.new.taker in
    let first = g.S.Shelf.heard c.args.shelf in
    err-so _ _ _
    (leave-as (cut r) _ _ _ _
    (λ ps h. files-left-part (front_of c.args.folder.now r.direction)
    (front_of last.folder.now last.direction) (g.S.Shelf.files c.args.shelf)
    (g.S.Shelf.files last.shelf) r any (packets_of ps) first (g.S.Shelf.heard last.shelf)
    c.requires.fresh last.filed h))
    c.each_as-ended.ensures.leaves

pub returns-clause-settled : goal.returns-clause-settled
returns-clause-settled g c = λ is.
    let r = c.args.reading.now in
    let any = c.args.any in
    let last = c.each_as-ended.new.taker in
    let first = g.S.Shelf.heard c.args.shelf in
    elim (c.each_as-ended.ensures.settled is) [
      | inl h ↦ inl (all-as (cut r) _ _ _ _
          (λ ps p. files-are (front_of c.args.folder.now r.direction)
          (front_of last.folder.now last.direction) (g.S.Shelf.files c.args.shelf)
          (g.S.Shelf.files last.shelf) first (g.S.Shelf.heard last.shelf)
          (events r any (packets_of ps)) c.requires.fresh last.filed p) h)
      | inr h ↦ inr h
    ]
