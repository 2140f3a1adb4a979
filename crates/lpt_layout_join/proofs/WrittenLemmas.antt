-- What a join writes of a stream in which a message is found.
use Rattle.std.proofs.Common.{◌≡◌, ◌∙◌, ap, sym, subst, refl, ℕ, ◌≤◌, Bool, true, false, List, [], ◌∷◌, length, Option, Some, None, is_some, arith}
use Rattle.std.specs.Prelude.{slice_get}
use Rattle.std.specs.BTreeMap.{IsOrdered}
use Rattle.std.specs.List.Sorted.{IsStrictlySortedBy}
use Rattle.std.specs.Map.{keys_of}
use Rattle.std.specs.Io.KnownBytes.{Appends}
use Rattle.std.proofs.lemmas.Map.Entries.{btree_map_get_place}
use Rattle.std.proofs.lemmas.Map.Keys.{Less-from_sorted}
use Rattle.lpt_carried.specs.declared.name.Name.{Name}
use Rattle.lpt_carried.specs.declared.reading.Reading.{Reading}
use Rattle.lpt_carried.specs.Carried.{same_name}
use Rattle.lpt_carried.proofs.NameLemmas.{same_name-true}
use Rattle.lpt_carried.specs.declared.wanted.Wanted.{Wanted}
use Rattle.lpt_stream.specs.Pieces.{Piece, packets_of}
use Rattle.lpt_layout_join.specs.declared.ending.JoinEnd.{JoinEnd}
use Rattle.lpt_layout_join.specs.declared.ending.JoinEnd.TheVariants.{Written}
use Rattle.lpt_layout_join.specs.declared.gathering.Gathering.{Gathering}
use Rattle.lpt_layout_join.specs.declared.gatherings.Gatherings.{Gatherings}
use Rattle.lpt_layout_join.specs.Came.{message_of}
use Rattle.lpt_layout_join.specs.Gathered.{Gathered, carry, parts_gathered}
use Rattle.lpt_layout_join.specs.Gatherings.{GivesEach, IsKept, IsOnly, kept_of}
use Rattle.lpt_layout_join.specs.Laws.{IsAsked}
use Rattle.lpt_layout_join.specs.Names.{name_cmp}
use Rattle.lpt_layout_join.specs.Writes.{Ends, EndsAs, WritesEnd, end_by, end_whole, unfit}
use Rattle.lpt_layout_join.proofs.NameLemmas.{name_cmp-same, name_cmp_total}
use Rattle.lpt_layout_join.proofs.SeveralLemmas.{at-own, at_name}
use Rattle.lpt_layout_join.proofs.WriteLemmas.{none-came}

no_true : true ≡ false → ⊥
no_true e = cc

-- ---- of a message that is whole and fit

module _ (r : Reading) (any : Bool) (g : Gathered) (m : List ℕ)
    (whole : message_of g.came.parts ≡ Some m)
    (fit : unfit r any g.sure m ≡ None) where
  ended : (end : JoinEnd) (old new : Option (List ℕ)) → Ends r any g end old new → Appends old new m
  ended end old new h =
      let is : end ≡ Written (length m) =
      h.end_is ∙ ap (end_by r any g.sure (is_some g.came.against)) whole ∙ ap (end_whole m) fit in
      subst (λ o. WritesEnd (Written (length m)) o old new) whole
      (subst (λ (x : JoinEnd). WritesEnd x (message_of g.came.parts) old new) is h.writes)

-- ---- of the only transaction

module _ (r : Reading) (n : Name) (ps : List Piece) (gs : Gatherings)
    (gives : GivesEach r None ps gs)
    (some : carry r n (packets_of ps) ≡ true)
    (others : (k : Name) → same_name n k ≡ false → carry r k (packets_of ps) ≡ false) where
  -- something is kept of it
  its_some : gs.has_more ≡ false → kept_of gs n ≡ None → ⊥
  its_some few none =
      let kept : IsKept r n ps gs.has_more None =
      subst (λ o. IsKept r n ps gs.has_more o) none (gives.each n refl) in
      no_true (sym some ∙ kept few)

  few : (k : ℕ) → length gs.kept.entries ≡ k → k ≤ 1 → gs.has_more ≡ false
  few k size small = go gs.has_more refl where
    go : (more : Bool) → gs.has_more ≡ more → more ≡ false
    go true e = let full = gives.full e in absurd (omega arith)
    go false e = refl

  -- and nothing of another
  its_name : (k : Name) (g : Gathering) → kept_of gs k ≡ Some g → n ≡ k
  its_name k g is = go (same_name n k) refl where
    go : (same : Bool) → same_name n k ≡ same → n ≡ k
    go true e = same_name-true n k e
    go false e =
        let kept : IsKept r k ps gs.has_more (Some g) =
        subst (λ o. IsKept r k ps gs.has_more o) is (gives.each k refl) in
        absurd (no_true (sym kept.1 ∙ others k e))

  module _ (ordered : IsOrdered name_cmp gs.kept) where
    its_place : (i : ℕ) (e : Name × Gathering)
        → slice_get gs.kept.entries i ≡ Some e
        → n ≡ e.0
    its_place i e is =
        its_name e.0 e.1 (btree_map_get_place name_cmp_total gs.kept i e.0 e.1 ordered is)

    only_by : (es : List (Name × Gathering))
        → gs.kept.entries ≡ es
        → (g : Gathering) × IsOnly gs n g
    only_by [] is =
        absurd (its_some (few 0 (ap length is) (omega arith)) (ap (at_name n) is))
    only_by (e ∷ []) is =
        let its : n ≡ e.0 = its_place 0 e (ap (λ es. slice_get es 0) is) in (
          e.1,
          record {
            is = is ∙ (λ i. (sym its i, e.1) ∷ []);
            all = few 1 (ap length is) (omega arith);
          },
        )
    only_by (e ∷ f ∷ es) is =
        let first = its_place 0 e (ap (λ es. slice_get es 0) is) in
        let second = its_place 1 f (ap (λ es. slice_get es 1) is) in
        let sorted : IsStrictlySortedBy name_cmp (keys_of (e ∷ f ∷ es)) =
        subst (λ es. IsStrictlySortedBy name_cmp (keys_of es)) is ordered in
        let less = Less-from_sorted name_cmp (keys_of (e ∷ f ∷ es)) 0 1 n sorted (omega arith)
        (omega arith) in
        let same = name_cmp-same e.0 f.0 (sym first ∙ second) in
        absurd cc

  only_name : (k : Name) (g : Gathering) → IsOnly gs k g → n ≡ k
  only_name k g only =
      its_name k g (ap (at_name k) only.is ∙ at-own k g)

-- ---- of a stream

module _ (w : Wanted) (any : Bool) (n : Name) (m : List ℕ) (ps : List Piece) (gs : Gatherings)
    (whole : message_of (parts_gathered w.reading n (packets_of ps)).came.parts ≡ Some m)
    (fit : unfit w.reading any (parts_gathered w.reading n (packets_of ps)).sure m ≡ None) where
  carried : carry w.reading n (packets_of ps) ≡ true
  carried = go (carry w.reading n (packets_of ps)) refl where
    go : (t : Bool) → carry w.reading n (packets_of ps) ≡ t → t ≡ true
    go true e = refl
    go false e =
        let none = sym (ap (λ c. message_of c.parts) (none-came w.reading n (packets_of ps) e))
        ∙ whole in
        absurd cc

  -- just that message is written
  pub written : (asked : Option Name) (end : Option JoinEnd) (old new : Option (List ℕ))
      → IsAsked asked n
      → (asked ≡ None
      → (k : Name) → same_name n k ≡ false → carry w.reading k (packets_of ps) ≡ false)
      → GivesEach w.reading asked ps gs
      → EndsAs w any asked ps gs end old new
      → Appends old new m
  written (Some k) None old new is others gives h = absurd h
  written (Some k) (Some end) old new is others gives h =
      ended w.reading any (parts_gathered w.reading n (packets_of ps)) m whole fit end old new
      (subst (λ (x : Name). Ends w.reading any (parts_gathered w.reading x (packets_of ps)) end
      old new) is h)
  written None None old new is others gives h =
      let one = only_by w.reading n ps gs gives carried (others refl) h.0.1 gs.kept.entries refl in
      absurd (h.0.0 n one.0 one.1)
  written None (Some end) old new is others gives h =
      ended w.reading any (parts_gathered w.reading n (packets_of ps)) m whole fit end old new
      (subst (λ (x : Name). Ends w.reading any (parts_gathered w.reading x (packets_of ps)) end
      old new)
      (sym (only_name w.reading n ps gs gives carried (others refl) h.0 h.1 h.2)) h.3)
