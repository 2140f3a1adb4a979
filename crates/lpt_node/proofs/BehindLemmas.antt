-- The first entry behind a name has the least name behind it.
use Rattle.std.proofs.Common.{◌≡◌, ◌∙◌, ap, sym, subst, refl, Less, Equal, Greater, Bool, true, false, List, [], ◌∷◌, Option, Some, None, is_some, ◌<◌, length, arith}
use Rattle.std.specs.Prelude.{IfSome, IsSome, slice_get}
use Rattle.std.specs.BTreeMap.{BTreeMap, get, IsLowerBound}
use Rattle.std.specs.BTreeMap.Range.{IsEntryInRange, IsLeBy, IsRangeOf}
use Rattle.std.specs.FinMap as map
use Rattle.std.specs.Ordering.{is_gt, is_lt, ordering_reverse}
use Rattle.std.specs.declared.cmp.Ordering.{Ordering}
use Rattle.std.specs.declared.ops.Bound.TheVariants.{Excluded, Unbounded}
use Rattle.std.proofs.lemmas.Bool.{true≢false}
use Rattle.lpt_packet.proofs.NameLemmas.{name_cmp_total}
use Rattle.lpt_packet.proofs.NamedLemmas.{by_name, get-by_name}
use Rattle.lpt_packet.specs.Names.{Name, name_before, name_cmp}
use Rattle.lpt_table.specs.Walking.{is_behind, IsNext}

is_less : (r : Ordering) → is_lt r ≡ true → r ≡ Less
is_less Less h = refl
is_less Equal h = absurd cc
is_less Greater h = absurd cc

turned : (r : Ordering) → is_gt r ≡ false → is_lt (ordering_reverse r) ≡ false
turned Less h = refl
turned Equal h = refl
turned Greater h = absurd (true≢false h)

-- a name that isn't above another isn't behind it either
not_before : (a q : Name) → is_gt (name_cmp a q) ≡ false → name_before q a ≡ false
not_before a q h = ap is_lt (name_cmp_total.antisymm q a) ∙ turned (name_cmp a q) h

module _ {X : Type 0} (m : BTreeMap Name X) where
  -- whether something stands under a name
  abbrev there : Name → Bool
  there q = is_some (map.get (by_name m.entries) q)

  found : (q : Name) → there q ≡ true → IsSome (get name_cmp m q)
  found q h = sym (ap is_some (get-by_name m.entries q)) ∙ h

  -- the first of all
  pub first_next : (name : Name) (x : X)
      → get name_cmp m name ≡ Some x
      → IsLowerBound name_cmp m name
      → IsNext there None (Some name)
  first_next name x at least = record {
    passes = ap is_some (get-by_name m.entries name ∙ at);
    behind = refl;
    least = λ q h _. not_before name q (least q (found q h));
  }

  nothing : (es : List (Name × X)) → (0 < length es → ⊥) → es ≡ []
  nothing [] h = refl
  nothing (e ∷ es) h = absurd (h (omega arith))

  -- none at all
  pub none_first : (0 < length m.entries → ⊥) → IsNext there None None
  none_first none q h =
      let is = nothing m.entries none in
      absurd (true≢false (sym h ∙ ap (λ (es : List (Name × X)). is_some (map.get (by_name es) q)) is
      ∙ ap is_some (get-by_name [] q)))

  module _ (after : Name) (r : List (Name × X))
      (range : IsRangeOf name_cmp (Excluded after) Unbounded m r) where
    -- the first behind a name
    pub next_next : (e : Name × X) (t : List (Name × X))
        → r ≡ e ∷ t
        → IsNext there (Some after) (Some e.0)
    next_next e t is =
        let here = subst (λ (l : List (Name × X)).
        IfSome (slice_get l 0) (IsEntryInRange name_cmp (Excluded after) Unbounded m)) is range.1 in
        record {
          passes = ap is_some (get-by_name m.entries e.0 ∙ here.1);
          behind = ap is_lt here.0.0;
          least = λ q h up. not_before e.0 q
              (subst (λ (l : List (Name × X)). IfSome (slice_get l 0) (λ x. IsLeBy name_cmp x.0 q)) is
              (range.2 q (is_less (name_cmp after q) up, tt) (found q h)));
        }

    -- none behind it
    pub none_next : r ≡ [] → IsNext there (Some after) None
    none_next is q h = go (name_before after q) refl where
      go : (b : Bool) → name_before after q ≡ b → name_before after q ≡ false
      go true up =
          let none = range.5 is q (is_less (name_cmp after q) up, tt) in
          absurd (true≢false (sym h ∙ ap is_some (get-by_name m.entries q ∙ none)))
      go false up = up
