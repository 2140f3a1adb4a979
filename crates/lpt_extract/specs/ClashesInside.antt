-- Which addresses areas gave different octets for.
use Rattle.std.specs.Prelude.{◌≡◌, ℕ, ◌-◌, ◌==◌, ◌&&◌, nat_le, nat_lt, not, Bool, List, length}
use Rattle.std.specs.Prelude.{get_or}
use Rattle.std.specs.List.{list_any}
use Rattle.lpt_memory.specs.declared.request.Area.{Area}
use Rattle.lpt_extract.specs.declared.clashes.Clashes.{Clashes}
use Rattle.lpt_extract.specs.Clashes.{cover_of}
use Rattle.lpt_extract.specs.Contradictions.{is_contradicted}
use Rattle.lpt_extract.specs.CoversInside.{Covers}
use Rattle.lpt_extract.specs.Gaps.{has, is_given, Gap}

-- the addresses from one on for which these areas gave different octets are told, and no others
pub record Tells (from : ℕ) (areas : List Area) (c : Clashes) : Type 0 where
  pub told : List Area
  pub covers : Covers 0 told (cover_of c)
  pub are : (n : ℕ) → is_given told n ≡ is_contradicted from areas n

-- whether an address is in one of these gaps
abbrev pub is_in : List Gap → ℕ → Bool
is_in gaps n = list_any (λ (g : Gap). nat_le g.first n && nat_le n g.last) gaps

-- whether this octet differs from the one that stands at the address n, of octets that stand from
-- an address on, and one came for n: it is in no gap
abbrev pub is_other : (from : ℕ) → (standing : List ℕ) → List Gap → (n octet : ℕ) → Bool
is_other from standing gaps n octet =
    nat_le from n
    && (nat_lt (n - from) (length standing)
    && (not (get_or standing (n - from) 0 == octet) && not (is_in gaps n)))

-- whether an area's octet does
abbrev pub is_unlike : (from : ℕ) → (standing : List ℕ) → List Gap → Area → ℕ → Bool
is_unlike from standing gaps a n =
    has a n && is_other from standing gaps n (get_or a.octets (n - a.address) 0)
