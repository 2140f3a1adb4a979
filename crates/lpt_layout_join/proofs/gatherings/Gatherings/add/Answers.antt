-- A part more, by the transaction of which it is one.
use Rattle.std.proofs.Common.{◌∙◌, ap, sym, subst, ◌+◌, ◌<◌, Bool, true, [], ◌∷◌, ◌++◌, length}
use Rattle.lpt_carried.specs.declared.name.Name.{Name}
use Rattle.lpt_carried.specs.Carried.{name_of, part_named, same_name}
use Rattle.lpt_layout.specs.Parts.{piece}
use Rattle.lpt_layout_join.specs.declared.gatherings.Gatherings.{Gatherings}
use Rattle.lpt_layout_join.specs.Gatherings.{GivesEach, kept_of}
use Rattle.lpt_layout_join.specs.GatheringsInside.{IsAddedTo}
use Rattle.lpt_layout_join.proofs.SeveralLemmas.{IsFull, each-added, each-begun, each-more, packet, part-its}
use Rattle.lpt_layout_join.proofs.gatherings.Gatherings.add.Goals as goal

-- to what is kept of it
pub returns-then-branch : goal.returns-then-branch
returns-then-branch c = λ r w ps b h wanted missing place some.
    let part = c.args.part.now in
    let name = c.name-name.ensures in
    let added = subst (λ (t : Bool). IsAddedTo (name_of (part_named part)) c.args.missing
    c.args.place (piece part.part) c.args.self.now c.add_to_kept.new.self t) c.if-branch.true
    (subst (λ (m : Name). IsAddedTo m c.args.missing c.args.place (piece part.part)
    c.args.self.now c.add_to_kept.new.self c.in_ok-add_to_kept.field-0) name
    c.in_ok-add_to_kept.ensures) in
    each-added r w b (part_named part) some wanted ps c.args.missing c.args.place c.args.self.now
    c.add_to_kept.new.self missing place added h

-- of one of which nothing can be kept
pub returns-then-not-has_room : goal.returns-then-not-has_room
returns-then-not-has_room c = λ r w ps b h wanted missing place some.
    let part = c.args.part.now in
    let name = c.name-name.ensures in
    let none = subst (λ (t : Bool). IsAddedTo (name_of (part_named part)) c.args.missing
    c.args.place (piece part.part) c.args.self.now c.add_to_kept.new.self t) c.if-branch.false
    (subst (λ (m : Name). IsAddedTo m c.args.missing c.args.place (piece part.part)
    c.args.self.now c.add_to_kept.new.self c.in_ok-add_to_kept.field-0) name
    c.in_ok-add_to_kept.ensures) in
    subst (λ (g : Gatherings). GivesEach r w (ps ++ packet b ∷ []) (record g { has_more = true }))
    (sym none.1)
    (each-more r w b (part_named part) some wanted ps c.args.self.now none.0
    (subst IsFull none.1 (c.has_room.ensures.full c.if-not-has_room.true)) h)

-- of one of which nothing was
pub returns : goal.returns
returns c = λ r w ps b h wanted missing place some.
    let part = c.args.part.now in
    let name = c.name-name.ensures in
    let none = subst (λ (t : Bool). IsAddedTo (name_of (part_named part)) c.args.missing
    c.args.place (piece part.part) c.args.self.now c.add_to_kept.new.self t) c.if-branch.false
    (subst (λ (m : Name). IsAddedTo m c.args.missing c.args.place (piece part.part)
    c.args.self.now c.add_to_kept.new.self c.in_ok-add_to_kept.field-0) name
    c.in_ok-add_to_kept.ensures) in
    let same = none.1 in
    let room = c.has_room.ensures.room c.if-not-has_room.false in
    each-begun r w b (part_named part) some wanted ps c.args.self.now c.put.new.self
    c.new-gathering.result c.add.new.self none.0 (
      ap (λ (g : Gatherings). g.has_more) (sym same) ∙ room.0,
      subst (λ (g : Gatherings). length g.kept.entries < 64) same room.1,
    )
    (c.new-gathering.ensures r (name_of (part_named part)))
    (λ gives. c.in_ok-add.ensures r (name_of (part_named part)) ps b gives missing place
    (part-its r w b (part_named part) some wanted))
    (λ n other. c.in_ok-put.ensures.others n (ap (λ (m : Name). same_name m n) name ∙ other)
    ∙ ap (λ (g : Gatherings). kept_of g n) same)
    (ap (kept_of c.put.new.self) (sym name) ∙ c.in_ok-put.ensures.kept)
    (c.put.ensures.more ∙ ap (λ (g : Gatherings). g.has_more) same)
    (c.in_ok-put.ensures.size ∙ ap (λ (g : Gatherings). length g.kept.entries + 1) same) h
