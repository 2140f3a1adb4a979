-- A reception that changes where it is, as on the finite map: as if it were taken out and put in.
use Rattle.std.specs.Prelude.{◌≡◌, ℕ, suc, ◌+◌, ◌≤◌, ◌<◌, T, List, [], ◌∷◌, cond, length, take, Some, None, is_some, refl, slice_index_or, slice_set}
use Rattle.std.specs.Ordering.{ordering_reverse}
use Rattle.std.specs.declared.cmp.Ordering.TheVariants.{Less}
use Prim.Native.Nat.{zero}
use Rattle.std.specs.List.{insert, remove}
use Rattle.std.specs.FinMap as maps
use Rattle.std.specs.FinMap.Entries.{below_all, by_order, is_sorted}
use Rattle.std.proofs.Common.{sym, ◌∙◌, ap, subst, arith}
use Rattle.std.proofs.lemmas.List.Edits.{length-remove}
use Rattle.std.proofs.lemmas.List.Sums.{sum_by-set}
use Rattle.slab.specs.Slab.{Slab, ContainsKey, get, slab_len, Updates, with_value}
use Rattle.slab.proofs.SlabLemmas.{ContainsKey-within, Updates-set, Updates-with_value}
use Rattle.lpt_packet.proofs.KeyLemmas.{first, second}
use Rattle.lpt_packet.proofs.NameLemmas.{name_cmp-IsAntisymmetric, name_cmp_total}
use Rattle.lpt_packet.specs.Names.{Name, name_cmp}
use Rattle.lpt_reception.specs.Received.{Received}
use Rattle.lpt_table.specs.declared.entries.Entry.{Entry}
use Rattle.lpt_table.specs.declared.places.DuePlace.{DuePlace}
use Rattle.lpt_table.specs.EntriesOf.{entry_in, map_of, IsListed}
use Rattle.lpt_table.specs.Tables.{Entries}
use Rattle.lpt_table.specs.Places.{by_name, by_moment, when_cmp, rank, spot, place_renewed}
use Rattle.lpt_table.proofs.MapLemmas.{insert-remove, get-removed}
use Rattle.lpt_table.proofs.OrderLemmas.{is_sorted-remove, when_cmp_total}
use Rattle.lpt_table.proofs.RankLemmas.{below_each, beside, rank-below_all}
use Rattle.lpt_table.proofs.PuttingLemmas.{placed-map, placed-len, placed-listed}
use Rattle.lpt_table.proofs.TakingLemmas.{by_moment_remove, found-within, found-kept, found-named, removed-map, removed-len, removed-listed}

-- ---- places

-- what is written at a place is put where another was taken out
pub set-insert : (xs : List DuePlace) (at : ℕ) (x : DuePlace)
    → at < length xs
    → slice_set xs at x ≡ insert (remove xs at) at x
set-insert [] at x l = absurd (omega arith)
set-insert (y ∷ ys) zero x l = refl
set-insert (y ∷ ys) (suc at) x l = ap (λ zs. y ∷ zs) (set-insert ys at x (omega arith))

-- without the last one the front is left
pub remove-last : (xs : List DuePlace) (at : ℕ) → at + 1 ≡ length xs → remove xs at ≡ take at xs
remove-last [] at l = absurd (omega arith)
remove-last (y ∷ []) zero l = refl
remove-last (y ∷ z ∷ zs) zero l = absurd (omega arith)
remove-last (y ∷ ys) (suc at) l = ap (λ zs. y ∷ zs) (remove-last ys at (omega arith))

-- places stay in order without one
pub sorted-without : (xs : List DuePlace) (at : ℕ)
    → T (is_sorted when_cmp (by_moment xs))
    → T (is_sorted when_cmp (by_moment (remove xs at)))
sorted-without xs at h =
    subst (λ es. T (is_sorted when_cmp es)) (sym (by_moment_remove xs at))
    (is_sorted-remove when_cmp (by_moment xs) at h)

-- one that belongs at the end is written there
pub renewed-last : (xs : List DuePlace) (at : ℕ) (x : DuePlace)
    → at + 1 ≡ length xs
    → rank when_cmp (x.last, x.name) (by_moment (take at xs)) ≡ at
    → slice_set xs at x ≡ place_renewed xs at x
renewed-last xs at x last same =
    set-insert xs at x (omega (arith, last))
    ∙ ap (λ i. insert (remove xs at) i x)
    (sym same ∙ ap (λ ys. rank when_cmp (x.last, x.name) (by_moment ys)) (sym (remove-last xs at last)))

-- a place is put back where it was taken out
put-back : (xs : List DuePlace) (at : ℕ) (x : DuePlace)
    → at < length xs
    → x ≡ slice_index_or xs at x
    → insert (remove xs at) at x ≡ xs
put-back [] at x l q = absurd (omega arith)
put-back (y ∷ ys) zero x l q = ap (λ z. z ∷ ys) q
put-back (y ∷ ys) (suc at) x l q = ap (λ zs. y ∷ zs) (put-back ys at x (omega arith) q)

-- among the others a place belongs where it is
rank-own : (xs : List DuePlace) (at : ℕ) (x : DuePlace)
    → T (is_sorted when_cmp (by_moment xs))
    → at < length xs
    → x ≡ slice_index_or xs at x
    → rank when_cmp (x.last, x.name) (by_moment (remove xs at)) ≡ at
rank-own [] at x up l q = absurd (omega arith)
rank-own (y ∷ ys) zero x up l q =
    let below = below_all when_cmp (y.last, y.name) (by_moment ys) in
    rank-below_all (x.last, x.name) ys
    (subst (λ (z : DuePlace). T (below_all when_cmp (z.last, z.name) (by_moment ys))) (sym q)
    (first below (is_sorted when_cmp (by_moment ys)) up))
rank-own (y ∷ ys) (suc at) x up l q =
    let n = rank when_cmp (x.last, x.name) (by_moment (remove ys at)) in
    let below = below_all when_cmp (y.last, y.name) (by_moment ys) in
    let rest : n ≡ at =
    rank-own ys at x (second below (is_sorted when_cmp (by_moment ys)) up) (omega arith) q in
    let later : beside (y.last, y.name) x ≡ Less =
    subst (λ (z : DuePlace). beside (y.last, y.name) z ≡ Less) (sym q)
    (below_each (y.last, y.name) ys at x (omega arith)
    (first below (is_sorted when_cmp (by_moment ys)) up))
    in
    ap (λ r. by_order r 0 (suc n) (suc n))
    (when_cmp_total.antisymm (x.last, x.name) (y.last, y.name) ∙ ap ordering_reverse later)
    ∙ ap suc rest

-- so the places stay as they are where one is renewed that is the same
pub renewed-same : (xs : List DuePlace) (at : ℕ) (x : DuePlace)
    → T (is_sorted when_cmp (by_moment xs))
    → at < length xs
    → x ≡ slice_index_or xs at x
    → place_renewed xs at x ≡ xs
renewed-same xs at x up l q =
    ap (λ i. insert (remove xs at) i x) (rank-own xs at x up l q) ∙ put-back xs at x l q

-- ---- a reception that changes

module _ (limit p capacity : ℕ) (s : Slab Received) (xs : List DuePlace)
    (l : IsListed limit p capacity s xs) (name : Name) (at : ℕ)
    (is : Some at ≡ spot name_cmp name (by_name xs)) (x : DuePlace)
    (q : x ≡ slice_index_or xs at x) (f : Received) (last : ℕ) where
  -- the slab without it
  abbrev gap : Slab Received
  gap = record s { slots = slice_set s.slots x.key None }

  -- and with what it is now
  abbrev pub after : Slab Received
  after = with_value s x.key f

  abbrev e : Entry
  e = record { name = name; filling = f; last = last }

  -- its place, which has the name
  abbrev pub place : DuePlace
  place = record x { last = last }

  its : record { last = last; name = name; key = x.key } ≡ place
  its =
      let named = sym (found-named limit p capacity s xs l name at is x q) in
      λ i. record { last = last; name = named i; key = x.key }

  kept : ContainsKey s x.key
  kept = found-kept limit p capacity s xs l name at is x q

  out : Updates s gap x.key None
  out = Updates-set s gap x.key None (ContainsKey-within s x.key kept) refl

  back : Updates gap after x.key (Some f)
  back =
      let into = Updates-with_value s x.key f kept in
      record {
        changed = into.changed;
        others = λ k d. into.others k d ∙ sym (out.others k d);
      }

  there : ◌≡◌ {A = ℕ} (cond (is_some (get s x.key)) 1 0) 1
  there = ap (λ b. cond b 1 0) kept

  less : slab_len gap + 1 ≡ slab_len s
  less =
      let sums = sum_by-set (λ o. cond (is_some o) 1 0) s.slots x.key None None
      (ContainsKey-within s x.key kept)
      in
      omega (arith, sums, there)

  as_many : slab_len after ≡ slab_len s
  as_many =
      let sums = sum_by-set (λ o. cond (is_some o) 1 0) s.slots x.key (Some f) None
      (ContainsKey-within s x.key kept)
      in
      omega (arith, sums, there)

  without : maps.remove (map_of s xs) name ≡ map_of gap (remove xs at)
  without = sym (removed-map limit p capacity s xs l name at is x q gap out)

  rest : IsListed limit p capacity gap (remove xs at)
  rest = removed-listed limit p capacity s xs l name at is x q gap out less refl

  absent : maps.get (map_of gap (remove xs at)) name ≡ None
  absent =
      ap (λ (m : Entries). maps.get m name) (sym without)
      ∙ get-removed name_cmp_total name_cmp-IsAntisymmetric (map_of s xs) name

  -- the map has the entry under its name
  pub renewed-map : map_of after (place_renewed xs at place)
      ≡ maps.insert (map_of s xs) name (entry_in e)
  renewed-map =
      ap (λ y. map_of after (place_renewed xs at y)) (sym its)
      ∙ placed-map limit p capacity gap (remove xs at) rest e absent after x.key back out.changed
      ∙ ap (λ (m : Entries). maps.insert m name (entry_in e)) (sym without)
      ∙ insert-remove name_cmp_total name_cmp-IsAntisymmetric (map_of s xs) name (entry_in e)

  -- it has as many entries
  pub renewed-len : maps.len (map_of after (place_renewed xs at place)) ≡ maps.len (map_of s xs)
  renewed-len =
      omega (
        arith,
        ap (λ y. maps.len (map_of after (place_renewed xs at y))) its,
        placed-len limit p capacity gap (remove xs at) rest e absent after x.key back out.changed,
        removed-len limit p capacity s xs l name at is x q gap out,
      )

  -- the list is sound with it
  pub renewed-listed : (more : ℕ)
      → f.id ≡ name.id
      → f.p ≡ p
      → capacity ≤ more
      → IsListed limit p more after (place_renewed xs at place)
  renewed-listed more named of_size grown =
      let within = found-within limit p capacity s xs l name at is in
      subst (λ y. IsListed limit p more after (place_renewed xs at y)) its
      (placed-listed limit p capacity gap (remove xs at) rest e absent after x.key back out.changed
      more (record { of_size = of_size; named = named })
      (omega (arith, length-remove xs at within, l.within)) grown
      (omega (arith, as_many, less)) refl)
