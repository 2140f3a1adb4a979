-- Numbers and places in a map of counts, once a number is put under a name.
use Rattle.std.proofs.Common.{◌≡◌, ◌∙◌, ap, sym, refl, ℕ, Bool, true, false, cond, List, Option, Some, None, is_some}
use Rattle.std.specs.BTreeMap.{is_at}
use Rattle.std.specs.Option.{option_map_or}
use Rattle.lpt_packet.proofs.NameLemmas.{name_tied, same_name-true}
use Rattle.lpt_packet.proofs.NamedLemmas.{value_of, Puts}
use Rattle.lpt_packet.specs.Names.{Name, name_cmp}
use Rattle.lpt_link.specs.Counts.{number_in, IsPlaced}

module _ (es fs : List (Name × ℕ)) (name : Name) where
  -- what stands under a name that is this one
  at_name : (q : Name) → is_at (name_cmp name) q ≡ true → value_of es q ≡ value_of es name
  at_name q e = ap (value_of es) (sym (same_name-true name q (sym (name_tied name q) ∙ e)))

  -- a place with 0 for a name that had none changes no number
  pub none_added : value_of es name ≡ None
      → Puts es fs name (Some 0)
      → (q : Name)
      → number_in fs q ≡ number_in es q
  none_added none put q =
      ap (λ (o : Option ℕ). option_map_or (λ n. n) o 0) (put q) ∙ go (is_at (name_cmp name) q) refl
    where
      go : (b : Bool)
          → is_at (name_cmp name) q ≡ b
          → option_map_or (λ n. n) (cond b (Some 0) (value_of es q)) 0 ≡ number_in es q
      go true e = sym (ap (λ (o : Option ℕ). option_map_or (λ n. n) o 0) (at_name q e ∙ none))
      go false e = refl

  -- where a number is put, no place goes
  pub places_more : (n : ℕ)
      → Puts es fs name (Some n)
      → (q : Name)
      → IsPlaced es q
      → IsPlaced fs q
  places_more n put q had = ap is_some (put q) ∙ go (is_at (name_cmp name) q) where
    go : (b : Bool) → is_some (cond b (Some n) (value_of es q)) ≡ true
    go true = refl
    go false = had
