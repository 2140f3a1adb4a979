-- Looking for a reception and taking it out, as on the finite map.
use Rattle.std.specs.Prelude.{◌≡◌, ◌≢◌, ℕ, ◌+◌, ◌<◌, Bool, true, false, cond, T, List, length, Option, Some, None, refl, slice_index_or, is_some}
use Rattle.std.specs.List.{remove}
use Rattle.std.specs.Option.{option_map}
use Rattle.std.specs.FinMap as maps
use Rattle.std.specs.FinMap.{same_map, get-remove}
use Rattle.std.specs.FinMap.Entries.{find, is_sorted}
use Rattle.std.specs.Ordering.{eq_by_cmp}
use Rattle.std.proofs.Common.{sym, ◌∙◌, ap, subst, arith}
use Rattle.std.proofs.Math.ListN.{get_or-map}
use Rattle.std.proofs.lemmas.List.{map-append, take-map, drop-map}
use Rattle.std.proofs.lemmas.List.Edits.{length-remove}
use Rattle.slab.specs.Slab.{Slab, ContainsKey, get, slab_len, Updates}
use Rattle.lpt_packet.proofs.NameLemmas.{name_cmp-IsAntisymmetric, name_cmp_total}
use Rattle.lpt_packet.specs.Names.{Name, name_cmp}
use Rattle.lpt_reception.specs.Received.{Received}
use Rattle.lpt_table.specs.declared.entries.Entry.{Entry}
use Rattle.lpt_table.specs.declared.places.DuePlace.{DuePlace}
use Rattle.lpt_table.specs.EntriesOf.{entry_at, parts_in, map_of, IsHeld, IsListed, IsEntry}
use Rattle.lpt_table.specs.Places.{by_name, by_moment, when_cmp, spot, AreApart}
use Rattle.lpt_table.proofs.MapLemmas.{find-others, remove-absent}
use Rattle.lpt_table.proofs.OrderLemmas.{is_sorted-remove}
use Rattle.lpt_table.proofs.PlaceLemmas.{Spots, IsSpot, Spots-spot, is_some-Spots, AreApart-where_key}
use Rattle.lpt_table.proofs.ListingLemmas.{tied_equal, inside, under_name, find-named, length-by_name, get-map_of, len-map_of, same_entries}

-- what is found where one name is left out is another's
not_none : {X : Type 0} (b : Bool) (r : Option X) (x : X)
    → cond b None r ≡ Some x
    → (b ≡ false) × (r ≡ Some x)
not_none true r x h = absurd cc
not_none false r x h = (refl, h)

by_name_remove : (xs : List DuePlace) (i : ℕ) → by_name (remove xs i) ≡ remove (by_name xs) i
by_name_remove xs i = simp (map-append, take-map, drop-map)

pub by_moment_remove : (xs : List DuePlace) (i : ℕ) → by_moment (remove xs i)
    ≡ remove (by_moment xs) i
by_moment_remove xs i = simp (map-append, take-map, drop-map)

module _ (limit p capacity : ℕ) (s : Slab Received) (xs : List DuePlace)
    (l : IsListed limit p capacity s xs) where
  spots : (name : Name) → Spots name_cmp name (by_name xs) (spot name_cmp name (by_name xs))
  spots name = Spots-spot name_cmp name_cmp_total name (by_name xs) l.apart

  -- a name has a place where the map has something under it
  pub is_some-spot : (name : Name)
      → is_some (spot name_cmp name (by_name xs)) ≡ is_some (maps.get (map_of s xs) name)
  is_some-spot name =
      is_some-Spots name_cmp name (by_name xs) (spot name_cmp name (by_name xs)) (spots name)
      ∙ is_some-map (find name_cmp name (by_name xs))
      ∙ ap is_some (sym (get-map_of s xs name)) where
        is_some-map : (r : Option DuePlace) → is_some r ≡ is_some (option_map (entry_at s) r)
        is_some-map None = refl
        is_some-map (Some x) = refl

  -- ---- a name that has no place

  module _ (name : Name) (is : None ≡ spot name_cmp name (by_name xs)) where
    -- the map has nothing under it
    pub missed-none : maps.get (map_of s xs) name ≡ None
    missed-none =
        get-map_of s xs name
        ∙ ap (option_map (entry_at s))
        (subst (Spots name_cmp name (by_name xs)) (sym is) (spots name))

    -- there is nothing to remove
    pub missed-rest : maps.remove (map_of s xs) name ≡ map_of s xs
    missed-rest =
        remove-absent name_cmp_total name_cmp-IsAntisymmetric (map_of s xs) name missed-none

  -- ---- a reception that is taken out

  module _ (name : Name) (at : ℕ) (is : Some at ≡ spot name_cmp name (by_name xs)) where
    here : IsSpot name_cmp name (by_name xs) at
    here = subst (Spots name_cmp name (by_name xs)) (sym is) (spots name)

    -- the place is one of the list
    pub found-within : at < length xs
    found-within = omega (arith, here.within, length-by_name xs)

    find-removed : (q : Name) → find name_cmp q (by_name (remove xs at))
        ≡ cond (eq_by_cmp name_cmp q name) None (find name_cmp q (by_name xs))
    find-removed q =
        ap (find name_cmp q) (by_name_remove xs at ∙ sym here.rest)
        ∙ find-others name_cmp_total name_cmp-IsAntisymmetric name q (by_name xs)

    removed-apart : AreApart name_cmp (by_name (remove xs at))
    removed-apart =
        subst (AreApart name_cmp) (here.rest ∙ sym (by_name_remove xs at))
        (AreApart-where_key name_cmp _ (by_name xs) l.apart)

    module _ (x : DuePlace) (q : x ≡ slice_index_or xs at x) where
      found : find name_cmp name (by_name xs) ≡ Some x
      found =
          here.value (x.name, x)
          ∙ ap (λ (e : Name × DuePlace). Some e.1)
          (get_or-map under_name xs at x ∙ ap under_name (sym q))

      -- the place has the name
      pub found-named : x.name ≡ name
      found-named = find-named name xs x found

      found-held : IsHeld s p name x
      found-held = l.held name x found

      -- its reception is kept there
      pub found-kept : ContainsKey s x.key
      found-kept = ap is_some found-held.kept

      -- it is what the map has under the name, of that name and of the part size
      pub found-entry : (f : Received) (e : Entry)
          → get s x.key ≡ Some f
          → e ≡ record { name = name; filling = f; last = x.last }
          → IsEntry (maps.get (map_of s xs) name) name p e
      found-entry f e k is =
          let held = found-held in
          let same : held.filling ≡ f = inside held.filling f (sym held.kept ∙ k) in
          subst (IsEntry (maps.get (map_of s xs) name) name p) (sym is) record {
            found = get-map_of s xs name ∙ ap (option_map (entry_at s)) found
                ∙ ap (λ (o : Option Received).
                Some (record { parts = parts_in o; last = x.last })) k;
            named = refl;
            its = record {
              of_size = ap (λ (f : Received). f.p) (sym same) ∙ held.of_size;
              named = ap (λ (f : Received). f.id) (sym same) ∙ held.named;
            };
          }

      module _ (t : Slab Received) (u : Updates s t x.key None) where
        -- the others stay where they are
        others : (q : Name) (y : DuePlace)
            → find name_cmp q (by_name (remove xs at)) ≡ Some y
            → (find name_cmp q (by_name xs) ≡ Some y) × (get t y.key ≡ get s y.key)
        others q y g =
            let n = not_none (eq_by_cmp name_cmp q name) (find name_cmp q (by_name xs)) y
            (sym (find-removed q) ∙ g)
            in
            let apart : y.key ≢ x.key = λ e.
            let never : true ≡ false =
            sym (tied_equal q name (l.alone q name y x n.1 found e)) ∙ n.0 in cc
            in
            (n.1, u.others y.key apart)

        -- the map is the one without the name
        pub removed-map : map_of t (remove xs at) ≡ maps.remove (map_of s xs) name
        removed-map =
            same_map name_cmp_total name_cmp-IsAntisymmetric _ _ (λ q.
            get-map_of t (remove xs at) q
            ∙ same_entries s t (find name_cmp q (by_name (remove xs at))) (λ y g. (others q y g).1)
            ∙ ap (option_map (entry_at s)) (find-removed q)
            ∙ pushed (eq_by_cmp name_cmp q name) (find name_cmp q (by_name xs))
            ∙ ap (cond (eq_by_cmp name_cmp q name) None) (sym (get-map_of s xs q))
            ∙ sym (get-remove name_cmp_total (map_of s xs) name q)) where
              pushed : (b : Bool) (r : Option DuePlace)
                  → option_map (entry_at s) (cond b None r)
                  ≡ cond b None (option_map (entry_at s) r)
              pushed true r = refl
              pushed false r = refl

        -- it has one less
        pub removed-len : maps.len (map_of t (remove xs at)) + 1 ≡ maps.len (map_of s xs)
        removed-len =
            omega (
              arith,
              len-map_of t (remove xs at) removed-apart,
              len-map_of s xs l.apart,
              length-remove xs at found-within,
            )

        -- the list is sound without it
        pub removed-listed : slab_len t + 1 ≡ slab_len s
            → t.capacity ≡ s.capacity
            → IsListed limit p capacity t (remove xs at)
        removed-listed less room = record {
          ordered = subst (λ es. T (is_sorted when_cmp es)) (sym (by_moment_remove xs at))
              (is_sorted-remove when_cmp (by_moment xs) at l.ordered);
          apart = removed-apart;
          held = λ q y g.
              let o = others q y g in
              let mine = l.held q y o.0 in
              record {
                filling = mine.filling;
                kept = o.1 ∙ mine.kept;
                named = mine.named;
                of_size = mine.of_size;
              };
          alone = λ q r y z g h. l.alone q r y z (others q y g).0 (others r z h).0;
          as_many = omega (arith, length-remove xs at found-within, less, l.as_many);
          within = omega (arith, length-remove xs at found-within, l.within);
          places = l.places;
          slots = omega (arith, room, l.slots);
        }
