use Rattle.std.proofs.Common.{◌≡◌, ◌∙◌, ap, subst, ℕ, ◌+◌, None, T, arith, sym}
use Rattle.std.specs.FinMap as map
use Rattle.std.specs.Vec.{vec_capacity}
use Rattle.lpt_table.specs.EntriesOf.{map_of, entry_in, IsIts}
use Rattle.lpt_table.specs.EntryLists.{Listing}
use Rattle.lpt_table.specs.Places.{by_moment, rank, when_cmp}
use Rattle.lpt_table.proofs.ListingLemmas.{changed, free}
use Rattle.lpt_table.proofs.PuttingLemmas.{belongs-within, placed-map, placed-len, placed-listed}
use Rattle.lpt_table.proofs.entries.EntryList.put.Goals as goal
use Rattle.lpt_table.proofs.entries.EntryList.put.Goals.{In-Ok}

-- the places are in order
pub rank_of-at-requires : goal.rank_of-at-requires
rank_of-at-requires c =
    subst (λ xs. T (map.is_sorted when_cmp (by_moment xs))) (sym c.deref.ensures.value)
    c.self.invariant.ordered

-- ---- there is room

pub insert_reserved-key-requires : goal.insert_reserved-key-requires
insert_reserved-key-requires c =
    let room =
    free c.self.inside.limit c.self.inside.p c.self.inside.fillings c.self.inside.places.items
    c.args.self.now c.self.invariant.apart c.self.view_is c.requires.room
    in
    omega (arith, room, c.self.invariant.as_many, c.self.invariant.slots)

pub insert-requires : goal.insert-requires
insert-requires c =
    let place : c.rank_of-at.result
    ≡ rank when_cmp (c.args.entry.last, c.args.entry.name)
    (by_moment c.self.inside.places.items) = cc
    in
    omega (
      arith,
      c.self.inside.places.ok,
      place,
      belongs-within c.args.entry.last c.args.entry.name c.self.inside.places.items,
    )

-- so the places need no memory
pub unreachable-requires : goal.unreachable-requires
unreachable-requires c =
    let room =
    free c.self.inside.limit c.self.inside.p c.self.inside.fillings c.self.inside.places.items
    c.args.self.now c.self.invariant.apart c.self.view_is c.requires.room
    in
    omega (
      arith,
      c.self.inside.places.ok,
      room,
      c.in-Err.ensures.full,
      c.self.invariant.places,
    )

-- ---- the reception is in the list

absent : (c : In-Ok)
    → map.get (map_of c.self.inside.fillings c.self.inside.places.items) c.args.entry.name ≡ None
absent c =
    ap (λ (l : Listing). map.get l.entries c.args.entry.name) c.self.view_is ∙ c.requires.absent

place_is : (c : In-Ok)
    → c.rank_of-at.result
    ≡ rank when_cmp (c.args.entry.last, c.args.entry.name) (by_moment c.self.inside.places.items)
place_is c = cc

pub invariant_of-self : goal.invariant_of-self
invariant_of-self c =
    rw (c.in-Ok.ensures.items, place_is c)
    (placed-listed c.self.inside.limit c.self.inside.p (vec_capacity c.self.inside.places)
    c.self.inside.fillings c.self.inside.places.items c.self.invariant c.args.entry (absent c)
    c.insert_reserved-key.new.self c.insert_reserved-key.result
    c.insert_reserved-key.ensures.updates c.insert_reserved-key.ensures.was_vacant
    (vec_capacity c.insert.new.self)
    (subst (λ (p : ℕ). IsIts p c.args.entry) (ap (λ (l : Listing). l.p) (sym c.self.view_is))
    c.requires.its)
    (free c.self.inside.limit c.self.inside.p c.self.inside.fillings c.self.inside.places.items
    c.args.self.now c.self.invariant.apart c.self.view_is c.requires.room)
    c.in-Ok.ensures.capacity
    c.insert_reserved-key.ensures.len c.insert_reserved-key.ensures.capacity)

pub returns-clause-value : goal.returns-clause-value
returns-clause-value c =
    changed c.self.inside.limit c.self.inside.p
    (map_of c.self.inside.fillings c.self.inside.places.items)
    (map_of c.insert_reserved-key.new.self c.insert.new.self.items) c.args.self.now
    (λ m. map.insert m c.args.entry.name (entry_in c.args.entry)) c.self.view_is
    (rw (c.in-Ok.ensures.items, place_is c)
    (placed-map c.self.inside.limit c.self.inside.p (vec_capacity c.self.inside.places)
    c.self.inside.fillings c.self.inside.places.items c.self.invariant c.args.entry (absent c)
    c.insert_reserved-key.new.self c.insert_reserved-key.result
    c.insert_reserved-key.ensures.updates c.insert_reserved-key.ensures.was_vacant))

pub returns-clause-len : goal.returns-clause-len
returns-clause-len c =
    rw (c.in-Ok.ensures.items, place_is c)
    (placed-len c.self.inside.limit c.self.inside.p (vec_capacity c.self.inside.places)
    c.self.inside.fillings c.self.inside.places.items c.self.invariant c.args.entry (absent c)
    c.insert_reserved-key.new.self c.insert_reserved-key.result
    c.insert_reserved-key.ensures.updates c.insert_reserved-key.ensures.was_vacant
    ∙ ap (λ (l : Listing). map.len l.entries + 1) c.self.view_is)
