-- The places are set back, and so the map.
use Rattle.std.proofs.Common.{◌≡◌, ◌∙◌, ap, subst, sym, arith}
use Rattle.std.specs.FinMap as map
use Rattle.std.proofs.lemmas.List.{length-map, with_items_is}
use Rattle.std.specs.Vec.{vec_capacity, with_items}
use Rattle.lpt_table.specs.EntriesOf.{IsListed, map_of}
use Rattle.lpt_table.specs.EntryLists.{Listing}
use Rattle.lpt_table.specs.SettingBack.{place_earlier, reaches_back, set_back}
use Rattle.lpt_table.proofs.BackLemmas.{AreLate, all-reach, back-len, back-listed, back-map, written-back}
use Rattle.lpt_table.proofs.ListingLemmas.{changed}
use Rattle.lpt_table.proofs.entries.EntryList.set_back.Goals as goal

pub set_back-requires : goal.set_back-requires
set_back-requires c =
    let k = c.self.inside in
    subst (AreLate c.args.ticks) (sym c.deref_mut.ensures.value)
    (all-reach c.args.ticks k.fillings k.places.items c.self.invariant.ordered
    (ap (λ (l : Listing). reaches_back c.args.ticks l.entries) c.self.view_is ∙ c.requires))

pub invariant_of-self : goal.invariant_of-self
invariant_of-self c =
    let k = c.self.inside in
    subst (λ xs. IsListed k.limit k.p (vec_capacity k.places) k.fillings xs)
    (sym (written-back k.places c.set_back.new.places c.deref_mut.result.now c.args.ticks
    c.set_back.ensures c.deref_mut.ensures.value))
    (back-listed k.limit k.p (vec_capacity k.places) (vec_capacity k.places) c.args.ticks
    k.fillings k.places.items c.self.invariant
    (all-reach c.args.ticks k.fillings k.places.items c.self.invariant.ordered
    (ap (λ (l : Listing). reaches_back c.args.ticks l.entries) c.self.view_is ∙ c.requires))
    (omega arith))

pub returns-clause-value : goal.returns-clause-value
returns-clause-value c =
    let k = c.self.inside in
    changed k.limit k.p (map_of k.fillings k.places.items)
    (map_of k.fillings (with_items k.places c.set_back.new.places).items) c.args.self.now
    (set_back c.args.ticks) c.self.view_is
    (ap (map_of k.fillings)
    (written-back k.places c.set_back.new.places c.deref_mut.result.now c.args.ticks
    c.set_back.ensures c.deref_mut.ensures.value)
    ∙ back-map c.args.ticks k.fillings k.places.items)

pub returns-clause-len : goal.returns-clause-len
returns-clause-len c =
    let k = c.self.inside in
    ap (λ xs. map.len (map_of k.fillings xs))
    (written-back k.places c.set_back.new.places c.deref_mut.result.now c.args.ticks
    c.set_back.ensures c.deref_mut.ensures.value)
    ∙ back-len c.args.ticks k.fillings k.places.items c.self.invariant.apart
    ∙ ap (λ (l : Listing). map.len l.entries) c.self.view_is
