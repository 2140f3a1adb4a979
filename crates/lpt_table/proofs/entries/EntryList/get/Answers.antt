-- What is kept under a name is the reception at the name's place.
use Rattle.lpt_packet.specs.Names.{name_cmp}
use Rattle.std.proofs.Common.{◌≡◌, ◌∙◌, ap, subst, Some, None, sym, arith, refl}
use Rattle.std.specs.FinMap as map
use Rattle.std.specs.Vec.{vec_capacity}
use Rattle.lpt_table.specs.declared.entries.Entry.{Entry}
use Rattle.lpt_table.specs.EntriesOf.{IsEntry}
use Rattle.lpt_table.specs.EntryLists.{Listing}
use Rattle.lpt_table.specs.Places.{by_name, spot}
use Rattle.lpt_table.proofs.TakingLemmas.{found-within, found-kept, found-entry, missed-none}
use Rattle.lpt_table.proofs.entries.EntryList.get.Goals as goal

pub index-place-requires : goal.index-place-requires
index-place-requires c =
    let k = c.self.inside in
    let is : Some c.in-Some.at ≡ spot name_cmp c.args.name (by_name k.places.items) = cc in
    let within = found-within k.limit k.p (vec_capacity k.places) k.fillings k.places.items
    c.self.invariant c.args.name c.in-Some.at is
    in
    omega (arith, k.places.ok, within)

pub index-requires : goal.index-requires
index-requires c =
    let k = c.self.inside in
    let is : Some c.in-Some.at ≡ spot name_cmp c.args.name (by_name k.places.items) = cc in
    found-kept k.limit k.p (vec_capacity k.places) k.fillings k.places.items c.self.invariant
    c.args.name c.in-Some.at is c.index-place.result.now c.index-place.ensures

pub returns-in-Some : goal.returns-in-Some
returns-in-Some c =
    let k = c.self.inside in
    let is : Some c.in-Some.at ≡ spot name_cmp c.args.name (by_name k.places.items) = cc in
    let e : Entry = record {
      name = c.args.name;
      filling = c.index.result.now;
      last = c.index-place.result.now.last;
    }
    in
    subst (λ (l : Listing). IsEntry (map.get l.entries c.args.name) c.args.name l.p e)
    c.self.view_is
    (found-entry k.limit k.p (vec_capacity k.places) k.fillings k.places.items c.self.invariant
    c.args.name c.in-Some.at is c.index-place.result.now c.index-place.ensures c.index.result.now
    e c.index.ensures refl)

pub returns-in-None : goal.returns-in-None
returns-in-None c =
    let k = c.self.inside in
    let is : None ≡ spot name_cmp c.args.name (by_name k.places.items) = cc in
    ap (λ (l : Listing). map.get l.entries c.args.name) (sym c.self.view_is)
    ∙ missed-none k.limit k.p (vec_capacity k.places) k.fillings k.places.items c.self.invariant
    c.args.name is
