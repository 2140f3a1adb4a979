-- A place whose tick is the same stays; one that stays at the end is written there; another is
-- taken out and put where it belongs.
use Rattle.std.proofs.Common.{◌≡◌, ◌∙◌, ap, subst, sym, arith, ◌+◌, T, length, take}
use Rattle.std.specs.FinMap as map
use Rattle.lpt_table.specs.Places.{rank, when_cmp, by_moment, place_renewed}
use Rattle.lpt_table.proofs.PuttingLemmas.{belongs-within}
use Rattle.lpt_table.proofs.RenewingLemmas.{remove-last, sorted-without, renewed-last, renewed-same}
use Rattle.lpt_table.proofs.places.renew.Goals as goal

-- where the tick is the same, so is the place
pub returns-then-last-place-clause-places : goal.returns-then-last-place-clause-places
returns-then-last-place-clause-places c =
    let xs = c.args.places.now.items in
    let x = c.args.place in
    sym (renewed-same xs c.args.at x c.requires.ordered c.requires.within c.requires.there)
    ∙ ap (λ last. place_renewed xs c.args.at (record x { last = last })) (sym c.if-last-place.true)

-- the places before the last one are in order
pub rank_of-requires : goal.rank_of-requires
rank_of-requires c =
    let xs = c.args.places.now.items in
    let last : c.args.at + 1 ≡ length xs = omega (
      arith,
      c.if-at-len.true,
      c.len.ensures,
      c.args.places.now.ok,
    )
    in
    subst (λ ys. T (map.is_sorted when_cmp (by_moment (take c.args.at ys))))
    (sym c.deref.ensures.value)
    (subst (λ ys. T (map.is_sorted when_cmp (by_moment ys))) (remove-last xs c.args.at last)
    (sorted-without xs c.args.at c.requires.ordered))

pub returns-then-rank_of-at-clause-places : goal.returns-then-rank_of-at-clause-places
returns-then-rank_of-at-clause-places c =
    let x = record c.args.place { last = c.args.last } in
    let last : c.args.at + 1 ≡ length c.args.places.now.items = omega (
      arith,
      c.if-at-len.true,
      c.len.ensures,
      c.args.places.now.ok,
    )
    in
    renewed-last c.args.places.now.items c.args.at x last
    (ap (λ ys. rank when_cmp (x.last, x.name) (by_moment (take c.args.at ys)))
    (sym c.deref.ensures.value)
    ∙ sym c.rank_of.ensures ∙ c.if-rank_of-at.true)

-- the others are in order
pub rank_of-to-requires : goal.rank_of-to-requires
rank_of-to-requires c =
    subst (λ ys. T (map.is_sorted when_cmp (by_moment ys)))
    (sym (c.deref-2.ensures.value ∙ c.remove.ensures.items))
    (sorted-without c.args.places.now.items c.args.at c.requires.ordered)

pub insert-requires : goal.insert-requires
insert-requires c =
    let x = record c.args.place { last = c.args.last } in
    let place : c.rank_of-to.result
    ≡ rank when_cmp (x.last, x.name) (by_moment c.remove.new.self.items) =
    c.rank_of-to.ensures
    ∙ ap (λ ys. rank when_cmp (x.last, x.name) (by_moment ys)) c.deref-2.ensures.value
    in
    omega (
      arith,
      c.remove.new.self.ok,
      place,
      belongs-within x.last x.name c.remove.new.self.items,
    )
