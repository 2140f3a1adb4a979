-- The places of a job of loads that isn't refused share no address.
use Rattle.std.proofs.Common.{◌≡◌, ◌≢◌, ◌∙◌, ap, sym, refl, subst, ℕ, zero, suc, ◌+◌, ◌<◌, ◌≤◌, ◌==◌, ◌&&◌, ◌||◌, nat_lt, Bool, true, false, if◌then◌else◌, List, [], ◌∷◌, map, Option, Some, None, ◌⊎◌, inl, inr, arith}
use Rattle.std.specs.List.{slice_get}
use Rattle.std.proofs.lemmas.Bool.Decides.{nat_tests}
use Rattle.lpt_requests.specs.declared.cut_fault.CutFault.TheVariants.{Empty, PastEnd}
use Rattle.lpt_requests.specs.Cuts.{place_fault, place_faults}
use Rattle.lpt_ground.specs.Overlaps.{overlap}
use Rattle.lpt_c_ground.specs.Plans.{overlaps_one, place_of, some_overlap}
use Rattle.lpt_c_ground.specs.declared.jobs.LptPlace.{LptPlace}
use Rattle.lpt_passes.specs.Places.{AreApart}
use Rattle.lpt_passes.proofs.PieceLemmas.{none-first}

-- ---- two places

-- one of them ends before the other begins
Clear : (p q : LptPlace) → Type 0
Clear p q = (p.address + p.len ≤ q.address) ⊎ (q.address + q.len ≤ p.address)

clear-by : (p q : LptPlace) (begins ends : Bool)
    → nat_lt p.address (q.address + q.len) ≡ begins
    → nat_lt q.address (p.address + p.len) ≡ ends
    → (begins && ends) ≡ false
    → Clear p q
unfolding Clear
clear-by p q false ends is_begins is_ends none = inr (grind (arith, nat_tests))
clear-by p q true false is_begins is_ends none = inl (grind (arith, nat_tests))
clear-by p q true true is_begins is_ends none = absurd cc

clear : (p q : LptPlace) → overlap (place_of p) (place_of q) ≡ false → Clear p q
clear p q none =
    clear-by p q (nat_lt p.address (q.address + q.len)) (nat_lt q.address (p.address + p.len)) refl
    refl none

other-way : (p q : LptPlace) → Clear p q → Clear q p
unfolding Clear
other-way p q (inl before) = inr before
other-way p q (inr behind) = inl behind

-- ---- all places

neither : (a b : Bool) → (a || b) ≡ false → (a ≡ false) × (b ≡ false)
neither false false none = (refl, refl)
neither false true none = absurd cc
neither true b none = absurd cc

-- a place shares no address with these
clear-of : (p : LptPlace) (places : List LptPlace) (k : ℕ) (q : LptPlace)
    → overlaps_one p places ≡ false
    → slice_get places k ≡ Some q
    → Clear p q
clear-of p [] k q none there = absurd cc
clear-of p (r ∷ rest) zero q none there =
    let both = neither (overlap (place_of p) (place_of r)) (overlaps_one p rest) none in
    let same : r ≡ q = cc in
    subst (Clear p) same (clear p r both.0)
clear-of p (r ∷ rest) (suc k) q none there =
    let both = neither (overlap (place_of p) (place_of r)) (overlaps_one p rest) none in
    clear-of p rest k q both.1 there

pub none-overlap : (places : List LptPlace) → some_overlap places ≡ false → AreApart places
unfolding Clear
none-overlap [] none i k p q there at other = absurd cc
none-overlap (r ∷ rest) none zero zero p q there at other = absurd (other refl)
none-overlap (r ∷ rest) none zero (suc k) p q there at other =
    let both = neither (overlaps_one r rest) (some_overlap rest) none in
    let same : r ≡ p = cc in
    subst (λ (z : LptPlace). Clear z q) same (clear-of r rest k q both.0 at)
none-overlap (r ∷ rest) none (suc i) zero p q there at other =
    let both = neither (overlaps_one r rest) (some_overlap rest) none in
    let same : r ≡ q = cc in
    other-way q p (subst (λ (z : LptPlace). Clear z p) same (clear-of r rest i p both.0 there))
none-overlap (r ∷ rest) none (suc i) (suc k) p q there at other =
    let both = neither (overlaps_one r rest) (some_overlap rest) none in
    none-overlap rest both.1 i k p q there at (λ e. other (ap suc e))
