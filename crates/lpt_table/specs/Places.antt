-- The places of open receptions: a list in the order of last ticks, and of names if those are
-- equal.
use Rattle.std.specs.Prelude.{◌≡◌, ℕ, suc, ◌+◌, nat_le, if◌then◌else◌, List, [], ◌∷◌, map, Option, Some, None}
use Rattle.std.specs.List.{insert, remove}
use Rattle.std.specs.Option.{option_map}
use Rattle.std.specs.Ordering.{nat_cmp, on, then_cmp}
use Rattle.std.specs.declared.cmp.Ordering.{Ordering}
use Rattle.std.specs.FinMap.Entries.{by_order, find}
use Rattle.lpt_packet.specs.Names.{Name, name_cmp}
use Rattle.lpt_table.specs.declared.places.DuePlace.{DuePlace}

-- the places under their names
abbrev pub by_name : List DuePlace → List (Name × DuePlace)
by_name xs = map (λ x. (x.name, x)) xs

-- the places under their last ticks and names
abbrev pub by_moment : List DuePlace → List ((ℕ × Name) × ℕ)
by_moment xs = map (λ x. ((x.last, x.name), x.key)) xs

-- which of two last ticks is the earlier, and of equal ones which name is before the other
abbrev pub when_cmp : ℕ × Name → ℕ × Name → Ordering
when_cmp = then_cmp (on (λ m. m.0) nat_cmp) (on (λ m. m.1) name_cmp)

-- at which place a key stands first
abbrev pub spot : {K X : Type 0} → (K → K → Ordering) → K → List (K × X) → Option ℕ
spot R k [] = None
spot R k (e ∷ es) =
    by_order (R k e.0) (option_map suc (spot R k es)) (Some 0) (option_map suc (spot R k es))

-- how many keys stand before the first one that is above this one
abbrev pub rank : {K X : Type 0} → (K → K → Ordering) → K → List (K × X) → ℕ
rank R k [] = 0
rank R k (e ∷ es) = by_order (R k e.0) 0 (suc (rank R k es)) (suc (rank R k es))

-- the places, with this one in place of the one at a place, where it belongs among the others
abbrev pub place_renewed : List DuePlace → ℕ → DuePlace → List DuePlace
place_renewed xs at x =
    insert (remove xs at) (rank when_cmp (x.last, x.name) (by_moment (remove xs at))) x

-- no key stands twice
abbrev pub AreApart : {K X : Type 0} → (K → K → Ordering) → List (K × X) → Type 0
AreApart R [] = Unit {0}
AreApart R (e ∷ es) = (find R e.0 es ≡ None) × AreApart R es

-- the name at the first place, if the reception there is overdue
abbrev pub first_overdue : ℕ → ℕ → List DuePlace → Option Name
first_overdue timeout now [] = None
first_overdue timeout now (x ∷ xs) = if nat_le (x.last + timeout) now then Some x.name else None
