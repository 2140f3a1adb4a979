-- What the reception makes of the part is put under its name.
use Rattle.std.proofs.Common.{◌≡◌, ◌∙◌, ap, subst, sym, arith, Some, None, refl}
use Rattle.std.specs.Prelude.{IfNone}
use Rattle.std.specs.FinMap as map
use Rattle.std.specs.Vec.{vec_capacity}
use Rattle.slab.specs.Slab.{with_value}
use Rattle.lpt_packet.specs.Names.{name_cmp}
use Rattle.lpt_reception.specs.Received.{Received}
use Rattle.lpt_reception.specs.Steps.{part_kept, Takes}
use Rattle.lpt_table.specs.declared.entries.Entry.{Entry}
use Rattle.lpt_table.specs.EntriesOf.{map_of, IsEntry}
use Rattle.lpt_table.specs.EntryLists.{Listing, last_after}
use Rattle.lpt_table.specs.Places.{by_name, spot}
use Rattle.lpt_table.proofs.ListingLemmas.{changed}
use Rattle.lpt_table.proofs.OfferLemmas.{takes_keeps}
use Rattle.lpt_table.proofs.RenewingLemmas.{renewed-map, renewed-len, renewed-listed}
use Rattle.lpt_table.proofs.TakingLemmas.{found-within, found-kept, found-entry, missed-none}
use Rattle.lpt_table.proofs.entries.EntryList.offer.Goals as goal
use Rattle.lpt_table.proofs.entries.EntryList.offer.Goals.{After-index_mut}

-- ---- the name has no place

pub returns-in_err-at-clause-none : goal.returns-in_err-at-clause-none
returns-in_err-at-clause-none c =
    let k = c.self.inside in
    let none : None ≡ spot name_cmp c.args.name (by_name k.places.items) =
    c.in_err-at.ensures
    ∙ ap (λ xs. spot name_cmp c.args.name (by_name xs)) c.deref.ensures.value
    in
    subst (λ r. IfNone r (map.get c.args.self.now.entries c.args.name ≡ None))
    (sym c.from_residual.ensures)
    (ap (λ (l : Listing). map.get l.entries c.args.name) (sym c.self.view_is)
    ∙ missed-none k.limit k.p (vec_capacity k.places) k.fillings k.places.items c.self.invariant
    c.args.name none)

-- ---- it has one

pub index-place-requires : goal.index-place-requires
index-place-requires c =
    let k = c.self.inside in
    let is = c.in_ok-at.ensures
    ∙ ap (λ xs. spot name_cmp c.args.name (by_name xs)) c.deref.ensures.value
    in
    omega (
      arith,
      k.places.ok,
      found-within k.limit k.p (vec_capacity k.places) k.fillings k.places.items c.self.invariant
          c.args.name c.in_ok-at.at is,
    )

pub index_mut-requires : goal.index_mut-requires
index_mut-requires c =
    let k = c.self.inside in
    let is = c.in_ok-at.ensures
    ∙ ap (λ xs. spot name_cmp c.args.name (by_name xs)) c.deref.ensures.value
    in
    found-kept k.limit k.p (vec_capacity k.places) k.fillings k.places.items c.self.invariant
    c.args.name c.in_ok-at.at is c.index-place.result.now c.index-place.ensures

spot_is : (c : After-index_mut)
    → Some c.in_ok-at.at ≡ spot name_cmp c.args.name (by_name c.self.inside.places.items)
spot_is c =
    c.in_ok-at.ensures
    ∙ ap (λ xs. spot name_cmp c.args.name (by_name xs)) c.deref.ensures.value

-- what is kept there
abbrev found : After-index_mut → Entry
found c = record {
  name = c.args.name;
  filling = c.index_mut.result.now;
  last = c.index-place.result.now.last;
}

is_entry : (c : After-index_mut)
    → IsEntry (map.get (map_of c.self.inside.fillings c.self.inside.places.items) c.args.name)
    c.args.name c.self.inside.p (found c)
is_entry c =
    let k = c.self.inside in
    found-entry k.limit k.p (vec_capacity k.places) k.fillings k.places.items c.self.invariant
    c.args.name c.in_ok-at.at (spot_is c) c.index-place.result.now c.index-place.ensures
    c.index_mut.result.now (found c) c.index_mut.ensures.value refl

pub take-took-requires-clause-id : goal.take-took-requires-clause-id
take-took-requires-clause-id c = sym ((is_entry c).its.named ∙ c.requires.named)

pub take-took-requires-clause-p : goal.take-took-requires-clause-p
take-took-requires-clause-p c =
    c.requires.p ∙ sym (ap (λ (l : Listing). l.p) c.self.view_is) ∙ sym (is_entry c).its.of_size

pub renew-requires-clause-within : goal.renew-requires-clause-within
renew-requires-clause-within c =
    let k = c.self.inside in
    let is = c.in_ok-at.ensures
    ∙ ap (λ xs. spot name_cmp c.args.name (by_name xs)) c.deref.ensures.value
    in
    found-within k.limit k.p (vec_capacity k.places) k.fillings k.places.items c.self.invariant
    c.args.name c.in_ok-at.at is

pub invariant_of-self : goal.invariant_of-self
invariant_of-self c =
    let k = c.self.inside in
    let d = (goal.at.invariant_of-self c).After-index_mut in
    let e = is_entry d in
    let keeps = takes_keeps c.args.mode c.index_mut.result.now c.take-took.new.self
    c.args.part.now.number (part_kept c.args.part.now) c.take-took.result c.take-took.ensures
    in
    rw c.renew.ensures.places
    (renewed-listed k.limit k.p (vec_capacity k.places) k.fillings k.places.items c.self.invariant
    c.args.name c.in_ok-at.at (spot_is d) c.index-place.result.now c.index-place.ensures
    c.take-took.new.self c.last_after-last.result (vec_capacity c.renew.new.places)
    (keeps.0 ∙ e.its.named) (keeps.1 ∙ e.its.of_size) c.renew.ensures.room)

pub returns-clause-took : goal.returns-clause-took
returns-clause-took c =
    let k = c.self.inside in
    let d = (goal.at.returns-clause-took c).After-index_mut in
    let name = c.args.name in
    let f = c.index_mut.result.now in
    let g = c.take-took.new.self in
    let t = with_value k.fillings c.index-place.result.now.key g in
    let e = is_entry d in
    let keeps = takes_keeps c.args.mode c.index_mut.result.now c.take-took.new.self
    c.args.part.now.number (part_kept c.args.part.now) c.take-took.result c.take-took.ensures
    in
    let size = ap (λ (l : Listing). l.p) c.self.view_is in
    let was : f ≡ record { id = name.id; p = c.args.self.now.p; parts = f.parts } =
    λ i. record { id = e.its.named i; p = (e.its.of_size ∙ size) i; parts = f.parts } in
    let becomes : g ≡ record { id = name.id; p = c.args.self.now.p; parts = g.parts } =
    λ i. record { id = (keeps.0 ∙ e.its.named) i; p = (keeps.1 ∙ e.its.of_size ∙ size) i; parts = g.parts } in
    record {
      entry = record { parts = f.parts; last = c.index-place.result.now.last };
      parts = g.parts;
      was = ap (λ (l : Listing). map.get l.entries name) (sym c.self.view_is) ∙ e.found;
      takes = subst (λ (r : Received). Takes c.args.mode r c.args.part.now.number
          (part_kept c.args.part.now) c.take-took.result
          (record { id = name.id; p = c.args.self.now.p; parts = g.parts })) was
          (subst (λ (r : Received). Takes c.args.mode f c.args.part.now.number
          (part_kept c.args.part.now) c.take-took.result r) becomes c.take-took.ensures);
      becomes = changed k.limit k.p (map_of k.fillings k.places.items)
          (map_of t c.renew.new.places.items) c.args.self.now
          (λ m. map.insert m name (record { parts = g.parts; last = last_after c.take-took.result c.index-place.result.now.last c.args.now })) c.self.view_is
          (ap (map_of t) c.renew.ensures.places
          ∙ renewed-map k.limit k.p (vec_capacity k.places) k.fillings k.places.items
          c.self.invariant name c.in_ok-at.at (spot_is d) c.index-place.result.now
          c.index-place.ensures g c.last_after-last.result
          ∙ ap (λ last. map.insert (map_of k.fillings k.places.items) name
          (record { parts = g.parts; last = last })) c.last_after-last.ensures);
    }

pub returns-clause-len : goal.returns-clause-len
returns-clause-len c =
    let k = c.self.inside in
    let d = (goal.at.returns-clause-len c).After-index_mut in
    let t = with_value k.fillings c.index-place.result.now.key c.take-took.new.self in
    ap (λ xs. map.len (map_of t xs)) c.renew.ensures.places
    ∙ renewed-len k.limit k.p (vec_capacity k.places) k.fillings k.places.items
    c.self.invariant c.args.name c.in_ok-at.at (spot_is d)
    c.index-place.result.now c.index-place.ensures c.take-took.new.self c.last_after-last.result
    ∙ ap (λ (l : Listing). map.len l.entries) c.self.view_is
