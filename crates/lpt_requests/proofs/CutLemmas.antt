-- Areas and places, cut one after the other.
use Rattle.std.proofs.Common.{◌≡◌, ◌∙◌, ap, sym, refl, subst, ℕ, zero, suc, ◌+◌, ◌-◌, ◌^◌, ◌<◌, ◌≤◌, ◌==◌, min, nat_lt, Bool, true, false, if◌then◌else◌, List, [], ◌∷◌, ◌++◌, length, map, take, drop, get_or, Option, Some, None, append-nil, append_assoc, drop-cons, arith}
use Rattle.std.proofs.Math.ListN.{drop_of_length-le}
use Rattle.std.proofs.Math.Seq.{drop-nil}
use Rattle.std.proofs.lemmas.Bool.Decides.{nat_tests}
use Rattle.std.proofs.lemmas.List.{length-drop, map-append, take_min}
use Rattle.lpt_memory.specs.declared.request.Area.{Area}
use Rattle.lpt_memory.specs.declared.request.AreaRange.{AreaRange}
use Rattle.lpt_requests.specs.declared.cut_fault.CutFault.TheVariants.{Empty, PastEnd}
use Rattle.lpt_requests.specs.declared.reading.AreaPlace.{AreaPlace}
use Rattle.lpt_requests.specs.declared.request.Request.{Request}
use Rattle.lpt_requests.specs.Cuts.{AreCut, AreasCut, ArePlacesCut, Asked, IsRangeCut, area_faults, or_first, place_fault, place_faults, view}

-- ---- lists

split-at : {A : Type 0} (xs : List A) (i : ℕ) (x d : A)
    → i < length xs
    → x ≡ get_or xs i d
    → drop i xs ≡ x ∷ drop (i + 1) xs
split-at xs i x d h e =
    let one : suc i ≡ i + 1 = omega arith in
    drop-cons xs i d h
    ∙ ap (λ y. y ∷ drop (suc i) xs) (sym e)
    ∙ ap (λ (k : ℕ). x ∷ drop k xs) one

drop-min : {A : Type 0} (n : ℕ) (xs : List A) → drop (min (length xs) n) xs ≡ drop n xs
drop-min n [] = drop-nil (min 0 n) ∙ sym (drop-nil n)
drop-min zero (x ∷ xs) = let e : min (length (x ∷ xs)) 0
    ≡ 0 = omega arith in ap (λ (k : ℕ). drop k (x ∷ xs)) e
drop-min (suc n) (x ∷ xs) =
    let e : min (length (x ∷ xs)) (suc n) ≡ suc (min (length xs) n) = omega arith in
    ap (λ (k : ℕ). drop k (x ∷ xs)) e ∙ drop-min n xs

-- the octets in front, and those behind them
pub front-is : (n each : ℕ) (rest : List ℕ) → n ≡ min (length rest) each → take n rest
    ≡ take each rest
front-is n each rest e =
    let turned : n ≡ min each (length rest) = omega arith in
    ap (λ (k : ℕ). take k rest) turned ∙ take_min each rest

pub behind-is : (n each : ℕ) (rest : List ℕ) → n ≡ min (length rest) each → drop n rest
    ≡ drop each rest
behind-is n each rest e = ap (λ (k : ℕ). drop k rest) e ∙ drop-min each rest

-- requests so far, and more of them
pub views-more : {A : Type 0} (ask : A → Asked) (pieces front : List A)
    (before old new : List Asked)
    → old ≡ before ++ map ask pieces
    → new ≡ old ++ map ask front
    → new ≡ before ++ map ask (pieces ++ front)
views-more ask pieces front before old new oe ne =
    ne
    ∙ ap (λ (vs : List Asked). vs ++ map ask front) oe
    ∙ append_assoc before (map ask pieces) (map ask front)
    ∙ ap (λ (vs : List Asked). before ++ vs) (sym (map-append ask pieces front))

-- one request more, which asks for x
pub views-push : {A : Type 0} (ask : A → Asked) (pieces : List A) (x : A)
    (first items new : List Request) (r : Request)
    → map view items ≡ map view first ++ map ask pieces
    → new ≡ items ++ r ∷ []
    → view r ≡ ask x
    → map view new ≡ map view first ++ map ask (pieces ++ x ∷ [])
views-push ask pieces x first items new r was pushed asks =
    views-more ask pieces (x ∷ []) (map view first) (map view items) (map view new) was
    (ap (map view) pushed ∙ map-append view items (r ∷ [])
    ∙ ap (λ (a : Asked). map view items ++ a ∷ []) asks)

-- ---- faults

none-first : {F : Type 0} (a b : Option F) → or_first a b ≡ None → (a ≡ None) × (b ≡ None)
none-first None b h = (refl, h)
none-first (Some e) b h = absurd cc

fits-by : (none past : Bool) (a l : ℕ)
    → (l == 0) ≡ none
    → nat_lt (2 ^ 32) (a + l) ≡ past
    → (if none then Some Empty else if past then Some PastEnd else None) ≡ None
    → a + l ≤ 2 ^ 32
fits-by true past a l n p h = absurd cc
fits-by false true a l n p h = absurd cc
fits-by false false a l n p h = grind (arith, nat_tests)

-- a place without a fault ends within the addresses
pub place-fits : (a l : ℕ) → place_fault a l ≡ None → a + l ≤ 2 ^ 32
place-fits a l h = fits-by (l == 0) (nat_lt (2 ^ 32) (a + l)) a l refl refl h

-- ---- areas

pub area-fits : (areas : List Area) (i : ℕ) (a d : Area)
    → i < length areas
    → a ≡ get_or areas i d
    → area_faults (drop i areas) ≡ None
    → (a.address + length a.octets ≤ 2 ^ 32) × (area_faults (drop (i + 1) areas) ≡ None)
area-fits areas i a d h e none =
    let step = sym (ap area_faults (split-at areas i a d h e)) ∙ none in
    let both = none-first (place_fault a.address (length a.octets))
    (area_faults (drop (i + 1) areas)) step in
    (place-fits a.address (length a.octets) both.0, both.1)

pub areas-next : (each : ℕ) (areas : List Area) (i : ℕ) (a d : Area) (pieces front : List Area)
    → i < length areas
    → a ≡ get_or areas i d
    → AreCut each a.address a.octets front
    → ((more : List Area) → AreasCut each (drop i areas) more
    → AreasCut each areas (pieces ++ more))
    → (more : List Area) → AreasCut each (drop (i + 1) areas) more
    → AreasCut each areas ((pieces ++ front) ++ more)
areas-next each areas i a d pieces front h e cut was more rest =
    subst (AreasCut each areas) (sym (append_assoc pieces front more))
    (was (front ++ more) (subst (λ (xs : List Area). AreasCut each xs (front ++ more))
    (sym (split-at areas i a d h e))
    (front, more, refl, cut, rest)))

pub area-next : (each at step first : ℕ) (rest back all : List ℕ) (pieces : List Area)
    → 0 < length rest
    → step ≡ each
    → back ≡ drop each rest
    → ((more : List Area) → AreCut each at rest more → AreCut each first all (pieces ++ more))
    → (more : List Area) → AreCut each (at + step) back more
    → AreCut each first all ((pieces ++ record { address = at; octets = take each rest } ∷ []) ++
    more)
area-next each at step first rest back all pieces some stepped behind was more cut =
    let piece : Area = record { address = at; octets = take each rest } in
    let next = subst (λ (k : ℕ). AreCut each (at + k) (drop each rest) more) stepped
    (subst (λ (o : List ℕ). AreCut each (at + step) o more) behind cut) in
    subst (AreCut each first all) (sym (append_assoc pieces (piece ∷ []) more))
    (was (piece ∷ more) (some, refl, next))

-- what is left ends where it ended
pub still-within : (each at step : ℕ) (rest back : List ℕ)
    → step ≡ each
    → back ≡ drop each rest
    → at + length rest ≤ 2 ^ 32
    → 0 < length back
    → at + step + length back ≤ 2 ^ 32
still-within each at step rest back stepped behind fit more =
    let left : length back ≡ length rest - each
    = ap (λ (o : List ℕ). length o) behind ∙ length-drop each rest in
    omega (arith, left, stepped, fit, more)

-- ---- places

pub place-fault : (places : List AreaPlace) (i : ℕ) (p d : AreaPlace)
    → i < length places
    → p ≡ get_or places i d
    → place_faults (drop i places) ≡ None
    → (p.address + p.len ≤ 2 ^ 32) × (place_faults (drop (i + 1) places) ≡ None)
place-fault places i p d h e none =
    let step = sym (ap place_faults (split-at places i p d h e)) ∙ none in
    let both = none-first (place_fault p.address p.len) (place_faults (drop (i + 1) places)) step in
    (place-fits p.address p.len both.0, both.1)

pub places-next : (each : ℕ) (places : List AreaPlace) (i : ℕ) (p d : AreaPlace)
    (ranges front : List AreaRange)
    → i < length places
    → p ≡ get_or places i d
    → IsRangeCut each p.address p.len front
    → ((more : List AreaRange) → ArePlacesCut each (drop i places) more
    → ArePlacesCut each places (ranges ++ more))
    → (more : List AreaRange) → ArePlacesCut each (drop (i + 1) places) more
    → ArePlacesCut each places ((ranges ++ front) ++ more)
places-next each places i p d ranges front h e cut was more rest =
    subst (ArePlacesCut each places) (sym (append_assoc ranges front more))
    (was (front ++ more) (subst (λ (ps : List AreaPlace). ArePlacesCut each ps (front ++ more))
    (sym (split-at places i p d h e))
    (front, more, refl, cut, rest)))

pub place-next : (each at step first rest left all : ℕ) (ranges : List AreaRange)
    → 0 < rest
    → step ≡ each
    → left ≡ rest - each
    → ((more : List AreaRange) → IsRangeCut each at rest more
    → IsRangeCut each first all (ranges ++ more))
    → (more : List AreaRange) → IsRangeCut each (at + step) left more
    → IsRangeCut each first all ((ranges ++ record { address = at; len = min rest each } ∷ []) ++
    more)
place-next each at step first rest left all ranges some stepped behind was more cut =
    let range : AreaRange = record { address = at; len = min rest each } in
    let next = subst (λ (k : ℕ). IsRangeCut each (at + k) (rest - each) more) stepped
    (subst (λ (l : ℕ). IsRangeCut each (at + step) l more) behind cut) in
    subst (IsRangeCut each first all) (sym (append_assoc ranges (range ∷ []) more))
    (was (range ∷ more) (some, refl, next))

-- ---- the ends

pub else-none : {F : Type 0} (b : Bool) (e : F) (o : Option F)
    → (if b then Some e else o) ≡ None
    → o ≡ None
else-none true e o h = absurd cc
else-none false e o h = h

pub none-left : (xs : List ℕ) → length xs ≡ 0 → xs ≡ []
none-left [] h = refl
none-left (x ∷ xs) h = absurd (omega arith)

-- all areas were cut
pub areas-done : (each : ℕ) (areas : List Area) (i : ℕ) (pieces : List Area)
    → length areas ≤ i
    → ((more : List Area) → AreasCut each (drop i areas) more
    → AreasCut each areas (pieces ++ more))
    → AreasCut each areas pieces
areas-done each areas i pieces h was =
    subst (AreasCut each areas) (append-nil pieces)
    (was [] (subst (λ (xs : List Area). AreasCut each xs [])
    (sym (drop_of_length-le areas h)) refl))

pub places-done : (each : ℕ) (places : List AreaPlace) (i : ℕ) (ranges : List AreaRange)
    → length places ≤ i
    → ((more : List AreaRange) → ArePlacesCut each (drop i places) more
    → ArePlacesCut each places (ranges ++ more))
    → ArePlacesCut each places ranges
places-done each places i ranges h was =
    subst (ArePlacesCut each places) (append-nil ranges)
    (was [] (subst (λ (ps : List AreaPlace). ArePlacesCut each ps [])
    (sym (drop_of_length-le places h)) refl))
