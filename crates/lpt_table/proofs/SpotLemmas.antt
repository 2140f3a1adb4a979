-- Where a name stands that no two places have.
use Rattle.std.proofs.Common.{Less, Equal, Greater, ◌≡◌, ◌≢◌, ◌∙◌, ap, sym, refl, inl, inr, ℕ, zero, suc, ◌<◌, List, [], ◌∷◌, length, get_or, Some, None, arith}
use Rattle.std.specs.Option.{option_map}
use Rattle.std.specs.FinMap.Entries.{by_order, find}
use Rattle.lpt_packet.specs.Names.{Name, name_cmp, no_name}
use Rattle.lpt_packet.proofs.KeyLemmas.{found_first, found_behind, same_or_not}
use Rattle.lpt_packet.proofs.NameLemmas.{name_cmp_total, name_cmp-IsAntisymmetric, name_cmp-same}
use Rattle.lpt_table.specs.declared.places.DuePlace.{DuePlace}
use Rattle.lpt_table.specs.Places.{AreApart, by_name, spot}

-- what a place is that isn't there
abbrev pub none : DuePlace
none = record { last = 0; name = no_name; key = 0 }

-- a name that no place has stands nowhere
pub spot-absent : (name : Name) (xs : List DuePlace)
    → ((k : ℕ) → k < length xs → (get_or xs k none).name ≢ name)
    → spot name_cmp name (by_name xs) ≡ None
spot-absent name [] h = refl
spot-absent name (x ∷ xs) h =
    let later : spot name_cmp name (by_name xs) ≡ None =
    spot-absent name xs (λ k l. h (suc k) (omega arith)) in
    elim (name_cmp name x.name) as (λ r. name_cmp name x.name ≡ r
    → by_order r (option_map suc (spot name_cmp name (by_name xs))) (Some 0)
    (option_map suc (spot name_cmp name (by_name xs))) ≡ None) [
      | Less ↦ λ e. ap (option_map suc) later
      | Equal ↦ λ e. absurd (h 0 (omega arith) (sym (name_cmp-IsAntisymmetric name x.name e)))
      | Greater ↦ λ e. ap (option_map suc) later
    ] refl

-- the first place is found under its name, and another name behind it
first : (name : Name) (e : Name × DuePlace) (es : List (Name × DuePlace))
    → name ≡ e.0
    → find name_cmp name (e ∷ es) ≡ Some e.1
first = found_first name_cmp_total name_cmp-IsAntisymmetric

behind : (name : Name) (e : Name × DuePlace) (es : List (Name × DuePlace))
    → name ≢ e.0
    → find name_cmp name (e ∷ es) ≡ find name_cmp name es
behind = found_behind name_cmp_total name_cmp-IsAntisymmetric

-- a name that a place has is found
found-at : (name : Name) (xs : List DuePlace) (at : ℕ)
    → at < length xs
    → (get_or xs at none).name ≡ name
    → find name_cmp name (by_name xs) ≡ None
    → ⊥
found-at name [] at l e h = absurd (omega arith)
found-at name (x ∷ xs) zero l e h =
    let here = first name (x.name, x) (by_name xs) (sym e) in cc
found-at name (x ∷ xs) (suc at) l e h =
    elim (same_or_not name_cmp_total name_cmp-IsAntisymmetric name x.name) [
      | inl w ↦ (let here = first name (x.name, x) (by_name xs) w.1 in cc)
      | inr w ↦
          found-at name xs at (omega arith) e
          (sym (behind name (x.name, x) (by_name xs) w.1) ∙ h)
    ]

-- where names are apart, a name stands at the place that has it
pub spot-at : (name : Name) (xs : List DuePlace) (at : ℕ)
    → AreApart name_cmp (by_name xs)
    → at < length xs
    → (get_or xs at none).name ≡ name
    → spot name_cmp name (by_name xs) ≡ Some at
spot-at name [] at apart l e = absurd (omega arith)
spot-at name (x ∷ xs) zero apart l e =
    ap (λ r. by_order r (option_map suc (spot name_cmp name (by_name xs))) (Some 0)
    (option_map suc (spot name_cmp name (by_name xs))))
    (name_cmp-same name x.name (sym e))
spot-at name (x ∷ xs) (suc at) apart l e =
    let later : spot name_cmp name (by_name xs) ≡ Some at =
    spot-at name xs at apart.1 (omega arith) e in
    elim (name_cmp name x.name) as (λ r. name_cmp name x.name ≡ r
    → by_order r (option_map suc (spot name_cmp name (by_name xs))) (Some 0)
    (option_map suc (spot name_cmp name (by_name xs))) ≡ Some (suc at)) [
      | Less ↦ λ w. ap (option_map suc) later
      | Equal ↦ λ w.
          absurd (found-at x.name xs at (omega arith) (e ∙ name_cmp-IsAntisymmetric name x.name w) apart.0)
      | Greater ↦ λ w. ap (option_map suc) later
    ] refl
