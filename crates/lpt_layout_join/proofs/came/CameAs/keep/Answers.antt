-- A part more is held.
use Rattle.std.proofs.Common.{◌∙◌, ◌-◌, ap, subst, sym}
use Rattle.std.specs.Option.{option_or}
use Rattle.lpt_layout.specs.Parts.{piece}
use Rattle.lpt_layout_join.specs.declared.slots.Slots.{Slots}
use Rattle.lpt_layout_join.specs.Slots.{IsSound, at, end_in}
use Rattle.lpt_layout_join.proofs.CameLemmas.{shows-more}
use Rattle.lpt_layout_join.proofs.came.CameAs.keep.Goals as goal

pub returns-clause-came : goal.returns-clause-came
returns-clause-came c came h none =
    let same = c.note.ensures.slots in
    let n = c.args.part.now.number in
    shows-more came c.args.self.now c.note.new.self (piece c.args.part.now) h c.requires.number
    (subst IsSound (sym same) (c.in_ok-put.ensures.sound h.sound))
    (λ i other. ap (λ (s : Slots). at s i) same ∙ c.in_ok-put.ensures.others h.sound i other)
    (ap (λ (s : Slots). at s (n - 1)) same ∙ c.in_ok-put.ensures.here h.sound)
    (ap end_in same ∙ c.in_ok-put.ensures.end)
    (c.note.ensures.size ∙ c.or-size.ensures
    ∙ (λ i. option_or (c.told_size.ensures.is i) (c.size_told.ensures.size i)))
    (c.note.ensures.last ∙ c.or-last.ensures
    ∙ (λ i. option_or (c.told_last.ensures.is i) (c.last_told.ensures.last i)))
    c.note.ensures.against
