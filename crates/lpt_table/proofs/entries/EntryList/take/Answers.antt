use Rattle.lpt_packet.specs.Names.{name_cmp}
use Rattle.std.proofs.Common.{◌≡◌, ◌∙◌, ap, subst, Some, None, sym, arith, refl}
use Rattle.std.specs.FinMap as map
use Rattle.std.specs.Vec.{vec_capacity}
use Rattle.lpt_table.specs.declared.entries.Entry.{Entry}
use Rattle.lpt_table.specs.EntriesOf.{map_of, IsEntry}
use Rattle.lpt_table.specs.EntryLists.{Listing}
use Rattle.lpt_table.specs.Places.{by_name, spot}
use Rattle.lpt_table.proofs.ListingLemmas.{changed}
use Rattle.lpt_table.proofs.TakingLemmas.{found-within, found-kept, found-entry, removed-map, removed-len, removed-listed, missed-none, missed-rest}
use Rattle.lpt_table.proofs.entries.EntryList.take.Goals as goal
use Rattle.lpt_table.proofs.entries.EntryList.take.Goals.{After-remove-filling, In-None}

-- ---- the name has a place

pub remove-place-requires : goal.remove-place-requires
remove-place-requires c =
    let is : Some c.in-Some.at ≡ spot name_cmp c.args.name (by_name c.self.inside.places.items) = cc
    in
    let within = found-within c.self.inside.limit c.self.inside.p
    (vec_capacity c.self.inside.places) c.self.inside.fillings c.self.inside.places.items
    c.self.invariant c.args.name c.in-Some.at is
    in
    omega (arith, c.self.inside.places.ok, within)

-- its reception is kept there
pub remove-filling-requires : goal.remove-filling-requires
remove-filling-requires c =
    let is : Some c.in-Some.at ≡ spot name_cmp c.args.name (by_name c.self.inside.places.items) = cc
    in
    found-kept c.self.inside.limit c.self.inside.p (vec_capacity c.self.inside.places)
    c.self.inside.fillings c.self.inside.places.items c.self.invariant c.args.name c.in-Some.at
    is c.remove-place.result c.remove-place.ensures.value

at_spot : (c : After-remove-filling)
    → Some c.in-Some.at ≡ spot name_cmp c.args.name (by_name c.self.inside.places.items)
at_spot c = cc

pub invariant_of-self : goal.invariant_of-self
invariant_of-self c =
    rw (c.remove-place.ensures.items, c.remove-place.ensures.capacity)
    (removed-listed c.self.inside.limit c.self.inside.p (vec_capacity c.self.inside.places)
    c.self.inside.fillings c.self.inside.places.items c.self.invariant c.args.name c.in-Some.at
    (at_spot c) c.remove-place.result c.remove-place.ensures.value
    c.remove-filling.new.self c.remove-filling.ensures.updates
    c.remove-filling.ensures.len c.remove-filling.ensures.capacity)

pub returns-in-Some-clause-rest : goal.returns-in-Some-clause-rest
returns-in-Some-clause-rest c =
    changed c.self.inside.limit c.self.inside.p
    (map_of c.self.inside.fillings c.self.inside.places.items)
    (map_of c.remove-filling.new.self c.remove-place.new.self.items) c.args.self.now
    (λ m. map.remove m c.args.name) c.self.view_is
    (ap (map_of c.remove-filling.new.self) c.remove-place.ensures.items
    ∙ removed-map c.self.inside.limit c.self.inside.p (vec_capacity c.self.inside.places)
    c.self.inside.fillings c.self.inside.places.items c.self.invariant c.args.name c.in-Some.at
    (at_spot c) c.remove-place.result c.remove-place.ensures.value
    c.remove-filling.new.self c.remove-filling.ensures.updates)

pub returns-in-Some-clause-entry : goal.returns-in-Some-clause-entry
returns-in-Some-clause-entry c =
    let e : Entry = record {
      name = c.args.name;
      filling = c.remove-filling.result;
      last = c.remove-place.result.last;
    }
    in
    subst (λ (l : Listing). IsEntry (map.get l.entries c.args.name) c.args.name l.p e)
    c.self.view_is
    (found-entry c.self.inside.limit c.self.inside.p (vec_capacity c.self.inside.places)
    c.self.inside.fillings c.self.inside.places.items c.self.invariant c.args.name c.in-Some.at
    (at_spot c) c.remove-place.result c.remove-place.ensures.value
    c.remove-filling.result e c.remove-filling.ensures.value refl)

pub returns-in-Some-clause-len : goal.returns-in-Some-clause-len
returns-in-Some-clause-len c =
    rw c.remove-place.ensures.items
    (removed-len c.self.inside.limit c.self.inside.p (vec_capacity c.self.inside.places)
    c.self.inside.fillings c.self.inside.places.items c.self.invariant c.args.name c.in-Some.at
    (at_spot c) c.remove-place.result c.remove-place.ensures.value
    c.remove-filling.new.self c.remove-filling.ensures.updates
    ∙ ap (λ (l : Listing). map.len l.entries) c.self.view_is)

-- ---- the name has none

missed : (c : In-None)
    → None ≡ spot name_cmp c.args.name (by_name c.self.inside.places.items)
missed c = cc

pub returns-in-None-clause-rest : goal.returns-in-None-clause-rest
returns-in-None-clause-rest c =
    sym c.self.view_is
    ∙ changed c.self.inside.limit c.self.inside.p
    (map_of c.self.inside.fillings c.self.inside.places.items)
    (map_of c.self.inside.fillings c.self.inside.places.items) c.args.self.now
    (λ m. map.remove m c.args.name) c.self.view_is
    (sym (missed-rest c.self.inside.limit c.self.inside.p (vec_capacity c.self.inside.places)
    c.self.inside.fillings c.self.inside.places.items c.self.invariant c.args.name (missed c)))

pub returns-in-None-clause-entry : goal.returns-in-None-clause-entry
returns-in-None-clause-entry c =
    ap (λ (l : Listing). map.get l.entries c.args.name) (sym c.self.view_is)
    ∙ missed-none c.self.inside.limit c.self.inside.p (vec_capacity c.self.inside.places)
    c.self.inside.fillings c.self.inside.places.items c.self.invariant c.args.name (missed c)
