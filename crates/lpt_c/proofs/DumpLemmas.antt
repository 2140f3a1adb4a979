-- Areas of a report, one after the other.
use Rattle.std.proofs.Common.{◌≡◌, ◌∙◌, ap, sym, refl, ℕ, suc, ◌+◌, ◌<◌, List, [], ◌∷◌, length, option_map, Option, Some, None, arith}
use Rattle.lpt_memory.specs.Fields.{◌>>=◌, all_areas}
use Rattle.lpt_memory.specs.Requests.{LoadArea}
use Rattle.lpt_c.specs.Dumps.{Placed, area_placed}

-- what was found before, or else what is found
abbrev pub or_else : Option Placed → Option Placed → Option Placed
or_else (Some p) later = Some p
or_else None later = later

pub or_none : (found : Option Placed) → or_else found None ≡ found
or_none (Some p) = refl
or_none None = refl

-- what is found with what is left
abbrev pub left : (List ℕ → Option (LoadArea × List ℕ)) → Option Placed → (at k n : ℕ) → List ℕ
    → Option (Option Placed)
left one found at k n octets =
    option_map (λ xs. or_else found (area_placed at k xs)) (all_areas one n octets)

-- where no area is read, nothing is
pub left-none : (one : List ℕ → Option (LoadArea × List ℕ)) (found : Option Placed)
    (at k n m : ℕ) (octets : List ℕ)
    → n ≡ suc m
    → one octets ≡ None
    → None ≡ left one found at k n octets
left-none one found at k n m octets same read =
    let f : List LoadArea → Option Placed = λ xs. or_else found (area_placed at k xs) in
    sym (ap (λ j. option_map f (all_areas one j octets)) same
    ∙ ap (λ r. option_map f
    (r >>= λ first. all_areas one m first.1 >>= λ others. Some (first.0 ∷ others))) read)

-- where one is, it stands in front of what is left behind it
front : (one : List ℕ → Option (LoadArea × List ℕ)) (found : Option Placed)
    (at k n m : ℕ) (octets behind : List ℕ) (a : LoadArea)
    → n ≡ suc m
    → one octets ≡ Some (a, behind)
    → option_map (λ xs. or_else found (area_placed at k (a ∷ xs))) (all_areas one m behind)
    ≡ left one found at k n octets
front one found at k n m octets behind a same read =
    let f : List LoadArea → Option Placed = λ xs. or_else found (area_placed at k xs) in
    sym (ap (λ j. option_map f (all_areas one j octets)) same
    ∙ ap (λ r. option_map f
    (r >>= λ first. all_areas one m first.1 >>= λ others. Some (first.0 ∷ others))) read
    ∙ mapped f (all_areas one m behind)) where
      mapped : (f : List LoadArea → Option Placed) (r : Option (List LoadArea))
          → option_map f (r >>= λ others. Some (a ∷ others)) ≡ option_map (λ xs. f (a ∷ xs)) r
      mapped f (Some xs) = refl
      mapped f None = refl

-- it is this one
pub next-here : (one : List ℕ → Option (LoadArea × List ℕ))
    (at later k j n m : ℕ) (octets behind : List ℕ) (a : LoadArea)
    → n ≡ suc m
    → one octets ≡ Some (a, behind)
    → k ≡ 0
    → left one (Some (record { at = at + 6; area = a })) later j m behind
    ≡ left one None at k n octets
next-here one at later k j n m octets behind a same read here =
    front one None at 0 n m octets behind a same read
    ∙ ap (λ i. left one None at i n octets) (sym here)

-- it comes later, unless one was found before
pub next-other : (one : List ℕ → Option (LoadArea × List ℕ)) (found : Option Placed)
    (at later k j n m : ℕ) (octets behind : List ℕ) (a : LoadArea)
    → n ≡ suc m
    → one octets ≡ Some (a, behind)
    → (found ≡ None → k ≡ suc j)
    → later ≡ at + (8 + length a.octets)
    → left one found later j m behind ≡ left one found at k n octets
next-other one (Some p) at later k j n m octets behind a same read more size =
    front one (Some p) at k n m octets behind a same read
next-other one None at later k j n m octets behind a same read more size =
    ap (λ i. left one None i j m behind) size
    ∙ front one None at (suc j) n m octets behind a same read
    ∙ ap (λ i. left one None at i n octets) (sym (more refl))

-- octets that are left over
pub left-over : (one : List ℕ → Option (LoadArea × List ℕ)) (found : Option Placed)
    (at k n : ℕ) (octets : List ℕ)
    → n ≡ 0
    → 0 < length octets
    → None ≡ left one found at k n octets
left-over one found at k n [] none some = absurd (omega (arith, some))
left-over one found at k n (x ∷ rest) none some =
    sym (ap (λ i. left one found at k i (x ∷ rest)) none)

pub unmapped : {A B : Type 0} (f : A → B) (x : Option A) → option_map f x ≡ None → x ≡ None
unmapped f None h = refl
unmapped f (Some x) h = absurd cc
