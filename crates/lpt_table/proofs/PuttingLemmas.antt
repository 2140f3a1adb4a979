-- Putting a reception in, as on the finite map.
use Rattle.std.specs.Prelude.{◌≡◌, ◌≢◌, ℕ, ◌+◌, ◌≤◌, ◌<◌, Bool, true, false, cond, T, List, length, Option, Some, None, refl}
use Rattle.std.specs.List.{insert}
use Rattle.std.specs.Option.{option_map}
use Rattle.std.specs.FinMap as maps
use Rattle.std.specs.FinMap.{same_map, get-insert}
use Rattle.std.specs.FinMap.Entries.{find, is_sorted, is_sorted-put}
use Rattle.std.specs.Ordering.{eq_by_cmp}
use Rattle.std.proofs.Common.{sym, ◌∙◌, ap, subst, arith}
use Rattle.std.proofs.lemmas.List.{map-append, take-map, drop-map, length-map}
use Rattle.std.proofs.lemmas.List.Edits.{length-insert}
use Rattle.slab.specs.Slab.{Slab, get, slab_len, Updates}
use Rattle.lpt_packet.proofs.NameLemmas.{name_cmp-IsAntisymmetric, name_cmp_total}
use Rattle.lpt_packet.specs.Names.{Name, name_cmp}
use Rattle.lpt_reception.specs.Received.{Received}
use Rattle.lpt_table.specs.declared.entries.Entry.{Entry}
use Rattle.lpt_table.specs.declared.places.DuePlace.{DuePlace}
use Rattle.lpt_table.specs.EntriesOf.{entry_in, entry_at, parts_in, map_of, IsIts, IsHeld, IsListed}
use Rattle.lpt_table.specs.Places.{by_name, by_moment, when_cmp, rank, AreApart}
use Rattle.lpt_table.proofs.OrderLemmas.{when_cmp_total, find-by_moment}
use Rattle.lpt_table.proofs.PlaceLemmas.{AreApart-inserted, find-inserted, rank-within, put-rank}
use Rattle.lpt_table.proofs.ListingLemmas.{equal_tied, inside, get-map_of, len-map_of, same_entries}

by_name_insert : (xs : List DuePlace) (i : ℕ) (x : DuePlace)
    → by_name (insert xs i x) ≡ insert (by_name xs) i (x.name, x)
by_name_insert xs i x = simp (map-append, take-map, drop-map)

by_moment_insert : (xs : List DuePlace) (i : ℕ) (x : DuePlace)
    → by_moment (insert xs i x) ≡ insert (by_moment xs) i ((x.last, x.name), x.key)
by_moment_insert xs i x = simp (map-append, take-map, drop-map)

-- a last tick and a name belong into the list or at its end
pub belongs-within : (last : ℕ) (name : Name) (xs : List DuePlace)
    → rank when_cmp (last, name) (by_moment xs) ≤ length xs
belongs-within last name xs =
    omega (
      arith,
      rank-within when_cmp (last, name) (by_moment xs),
      length-map {A = DuePlace} {B = (ℕ × Name) × ℕ} xs (λ x. ((x.last, x.name), x.key)),
    )

-- ---- a reception that is put in

module _ (limit p capacity : ℕ) (s : Slab Received) (xs : List DuePlace)
    (l : IsListed limit p capacity s xs) where
  module _ (e : Entry) (absent : maps.get (map_of s xs) e.name ≡ None) where
    none : find name_cmp e.name (by_name xs) ≡ None
    none = unmapped (find name_cmp e.name (by_name xs))
        (sym (get-map_of s xs e.name) ∙ absent) where
          unmapped : (r : Option DuePlace) → option_map (entry_at s) r ≡ None → r ≡ None
          unmapped None h = refl
          unmapped (Some x) h = absurd cc

    -- where its last tick and name belong
    abbrev pub belongs : ℕ
    belongs = rank when_cmp (e.last, e.name) (by_moment xs)

    module _ (t : Slab Received) (key : ℕ) (u : Updates s t key (Some e.filling))
        (vacant : get s key ≡ None) where
      -- its place
      abbrev pub here : DuePlace
      here = record { last = e.last; name = e.name; key = key }

      -- the places with it
      abbrev pub placed : List DuePlace
      placed = insert xs belongs here

      length-placed : length placed ≡ length xs + 1
      length-placed =
          length-insert xs belongs (record { last = e.last; name = e.name; key = key })
          (belongs-within e.last e.name xs)

      find-placed : (q : Name) → find name_cmp q (by_name placed)
          ≡ cond (eq_by_cmp name_cmp q e.name)
          (Some (record { last = e.last; name = e.name; key = key }))
          (find name_cmp q (by_name xs))
      find-placed q =
          ap (find name_cmp q) (by_name_insert xs belongs _)
          ∙ find-inserted name_cmp name_cmp_total e.name _ (by_name xs) belongs q none

      placed-apart : AreApart name_cmp (by_name placed)
      placed-apart =
          subst (AreApart name_cmp) (sym (by_name_insert xs belongs _))
          (AreApart-inserted name_cmp name_cmp_total e.name _ (by_name xs) belongs none l.apart)

      placed-ordered : T (is_sorted when_cmp (by_moment placed))
      placed-ordered =
          subst (λ es. T (is_sorted when_cmp es))
          (put-rank when_cmp (e.last, e.name) key (by_moment xs)
          (find-by_moment e.last e.name xs none) ∙ sym (by_moment_insert xs belongs _))
          (is_sorted-put when_cmp when_cmp_total (e.last, e.name) key (by_moment xs) l.ordered)

      -- no other has the key
      fresh : (q : Name) (y : DuePlace) → find name_cmp q (by_name xs) ≡ Some y → y.key ≢ key
      fresh q y g same =
          let mine = l.held q y g in
          let never : None ≡ Some mine.filling = sym vacant ∙ ap (get s) (sym same) ∙ mine.kept in
          absurd cc

      -- the others stay where they are
      stays : (q : Name) (y : DuePlace)
          → find name_cmp q (by_name xs) ≡ Some y
          → get t y.key ≡ get s y.key
      stays q y g = u.others y.key (fresh q y g)

      -- the map is the one with the entry
      pub placed-map : map_of t placed ≡ maps.insert (map_of s xs) e.name (entry_in e)
      placed-map =
          same_map name_cmp_total name_cmp-IsAntisymmetric _ _ (λ q.
          get-map_of t placed q
          ∙ ap (option_map (entry_at t)) (find-placed q)
          ∙ pushed (eq_by_cmp name_cmp q e.name) (find name_cmp q (by_name xs))
          (same_entries s t (find name_cmp q (by_name xs)) (stays q))
          ∙ ap (cond (eq_by_cmp name_cmp q e.name) (Some (entry_in e))) (sym (get-map_of s xs q))
          ∙ sym (get-insert name_cmp_total (map_of s xs) e.name (entry_in e) q)) where
            pushed : (b : Bool) (r : Option DuePlace)
                → option_map (entry_at t) r ≡ option_map (entry_at s) r
                → option_map (entry_at t)
                (cond b (Some (record { last = e.last; name = e.name; key = key })) r)
                ≡ cond b (Some (entry_in e)) (option_map (entry_at s) r)
            pushed true r h =
                ap (λ (o : Option Received). Some (record { parts = parts_in o; last = e.last }))
                u.changed
            pushed false r h = h

      -- it has one more
      pub placed-len : maps.len (map_of t placed) ≡ maps.len (map_of s xs) + 1
      placed-len =
          omega (
            arith,
            len-map_of t placed placed-apart,
            len-map_of s xs l.apart,
            length-placed,
          )

      -- the list is sound with it
      pub placed-listed : (more : ℕ)
          → IsIts p e
          → length xs < limit
          → capacity ≤ more
          → slab_len t ≡ slab_len s + 1
          → t.capacity ≡ s.capacity
          → IsListed limit p more t placed
      placed-listed more its room grown one_more same = record {
        ordered = placed-ordered;
        apart = placed-apart;
        held = λ q y g.
            held_by q y (eq_by_cmp name_cmp q e.name) refl (sym (find-placed q) ∙ g);
        alone = λ q r y z g h.
            alone_by q r y z (eq_by_cmp name_cmp q e.name) (eq_by_cmp name_cmp r e.name) refl refl
            (sym (find-placed q) ∙ g) (sym (find-placed r) ∙ h);
        as_many = omega (
          arith,
          length-placed,
          one_more,
          l.as_many,
        );
        within = omega (
          arith,
          length-placed,
          room,
        );
        places = omega (arith, l.places, grown);
        slots = omega (arith, same, l.slots);
      } where
        alone_by : (q r : Name) (y z : DuePlace) (a b : Bool)
            → eq_by_cmp name_cmp q e.name ≡ a
            → eq_by_cmp name_cmp r e.name ≡ b
            → cond a (Some here) (find name_cmp q (by_name xs)) ≡ Some y
            → cond b (Some here) (find name_cmp r (by_name xs)) ≡ Some z
            → y.key ≡ z.key
            → q ≡ r
        alone_by q r y z true true i j g h same =
            equal_tied q e.name i ∙ sym (equal_tied r e.name j)
        alone_by q r y z true false i j g h same =
            absurd (fresh r z h (sym same ∙ ap (λ (x : DuePlace). x.key) (sym (inside here y g))))
        alone_by q r y z false true i j g h same =
            absurd (fresh q y g (same ∙ ap (λ (x : DuePlace). x.key) (sym (inside here z h))))
        alone_by q r y z false false i j g h same = l.alone q r y z g h same

        held_by : (q : Name) (y : DuePlace) (b : Bool)
            → eq_by_cmp name_cmp q e.name ≡ b
            → cond b (Some (record { last = e.last; name = e.name; key = key }))
            (find name_cmp q (by_name xs)) ≡ Some y
            → IsHeld t p q y
        held_by q y true is g =
            let here : record { last = e.last; name = e.name; key = key } ≡ y = inside _ _ g in
            record {
              filling = e.filling;
              kept = ap (λ (x : DuePlace). get t x.key) (sym here) ∙ u.changed;
              named = its.named ∙ ap (λ (n : Name). n.id) (sym (equal_tied q e.name is));
              of_size = its.of_size;
            }
        held_by q y false is g =
            let mine = l.held q y g in
            record {
              filling = mine.filling;
              kept = stays q y g ∙ mine.kept;
              named = mine.named;
              of_size = mine.of_size;
            }
