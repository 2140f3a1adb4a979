-- How many requests places are cut into.
use Rattle.std.proofs.Common.{◌≡◌, ◌∙◌, ap, sym, ℕ, suc, ◌+◌, ◌-◌, ◌<◌, ◌≤◌, nat_le, true, List, [], ◌∷◌, length, map, take, drop, arith}
use Rattle.std.specs.Int.{div_ceil}
use Rattle.std.proofs.lemmas.Bool.{and_parts}
use Rattle.std.proofs.lemmas.Bool.Decides.{nat_tests}
use Rattle.std.proofs.lemmas.List.{length-append, length-map, length-take, length-drop}
use Rattle.lpt_memory.specs.declared.request.Area.{Area}
use Rattle.lpt_memory.specs.declared.request.AreaRange.{AreaRange}
use Rattle.lpt_requests.specs.declared.request.Request.{Request}
use Rattle.lpt_requests.specs.Cuts.{AreCut, AreasCut, ArePlacesCut, Asked, IsRangeCut, view}
use Rattle.lpt_c_ground.specs.declared.jobs.LptPlace.{LptPlace}
use Rattle.lpt_c_ground.specs.Plans.{areas_of, have_together, how_many, place_of}

-- no octets take no request
none-up : (each : ℕ) → 0 < each → div_ceil 0 each ≡ 0
none-up each some = grind (arith)

-- some take one, and then as many as those that are left
one-more : (len each : ℕ) → 0 < each → 0 < len
    → div_ceil len each ≡ suc (div_ceil (len - each) each)
one-more len each some full = grind (arith)

-- ---- what is cut

cut-length : (each address : ℕ) (octets : List ℕ) (pieces : List Area)
    → 0 < each
    → AreCut each address octets pieces
    → length pieces ≡ div_ceil (length octets) each
cut-length each address octets [] some e =
    sym (ap (λ (o : List ℕ). div_ceil (length o) each) e ∙ none-up each some)
cut-length each address octets (a ∷ rest) some cut =
    let others = cut-length each (address + each) (drop each octets) rest some cut.2 in
    ap suc (others ∙ ap (λ (n : ℕ). div_ceil n each) (length-drop each octets))
    ∙ sym (one-more (length octets) each some cut.0)

range-length : (each address len : ℕ) (ranges : List AreaRange)
    → 0 < each
    → IsRangeCut each address len ranges
    → length ranges ≡ div_ceil len each
range-length each address len [] some e =
    sym (ap (λ (n : ℕ). div_ceil n each) e ∙ none-up each some)
range-length each address len (r ∷ rest) some cut =
    ap suc (range-length each (address + each) (len - each) rest some cut.2)
    ∙ sym (one-more len each some cut.0)

-- ---- place after place

areas-length : (each : ℕ) (places : List LptPlace) (content : List ℕ) (pieces : List Area)
    → 0 < each
    → have_together places (length content) ≡ true
    → AreasCut each (areas_of places content) pieces
    → length pieces ≡ how_many each places
areas-length each [] content pieces some together e = ap (λ (ps : List Area). length ps) e
areas-length each (p ∷ rest) content pieces some together cut =
    let both = and_parts (nat_le p.len (length content))
    (have_together rest (length content - p.len)) together in
    let within : p.len ≤ length content = grind (arith, nat_tests, both.0) in
    let here : length (take p.len content) ≡ p.len
    = omega (arith, within, length-take p.len content) in
    let first = cut-length each p.address (take p.len content) cut.0 some cut.3
    ∙ ap (λ (n : ℕ). div_ceil n each) here in
    let others = areas-length each rest (drop p.len content) cut.1 some
    (ap (λ (n : ℕ). have_together rest n) (length-drop p.len content) ∙ both.1) cut.4 in
    ap (λ (ps : List Area). length ps) cut.2 ∙ length-append cut.0 cut.1
    ∙ ap (λ (n : ℕ). n + length cut.1) first
    ∙ ap (λ (n : ℕ). div_ceil p.len each + n) others

places-length : (each : ℕ) (places : List LptPlace) (ranges : List AreaRange)
    → 0 < each
    → ArePlacesCut each (map place_of places) ranges
    → length ranges ≡ how_many each places
places-length each [] ranges some e = ap (λ (rs : List AreaRange). length rs) e
places-length each (p ∷ rest) ranges some cut =
    let first = range-length each p.address p.len cut.0 some cut.3 in
    let others = places-length each rest cut.1 some cut.4 in
    ap (λ (rs : List AreaRange). length rs) cut.2 ∙ length-append cut.0 cut.1
    ∙ ap (λ (n : ℕ). n + length cut.1) first
    ∙ ap (λ (n : ℕ). div_ceil p.len each + n) others

-- ---- requests

asked-length : {A : Type 0} (requests : List Request) (pieces : List A) (ask : A → Asked)
    → map view requests ≡ map ask pieces
    → length requests ≡ length pieces
asked-length requests pieces ask e =
    let same : length (map view requests) ≡ length (map ask pieces)
    = ap (λ (xs : List Asked). length xs) e in
    omega (arith, same, length-map requests view, length-map pieces ask)

-- the loads of places that have a content together
pub few-loads : (each : ℕ) (places : List LptPlace) (content : List ℕ) (pieces : List Area)
    (requests : List Request) (ask : Area → Asked) (most : ℕ)
    → 0 < each
    → have_together places (length content) ≡ true
    → how_many each places ≤ most
    → AreasCut each (areas_of places content) pieces
    → map view requests ≡ map ask pieces
    → length requests ≤ most
few-loads each places content pieces requests ask most some together few cut e =
    omega (
      arith,
      few,
      asked-length requests pieces ask e,
      areas-length each places content pieces some together cut,
    )

-- the reads of places
pub few-reads : (each : ℕ) (places : List LptPlace) (ranges : List AreaRange)
    (requests : List Request) (ask : AreaRange → Asked) (most : ℕ)
    → 0 < each
    → how_many each places ≤ most
    → ArePlacesCut each (map place_of places) ranges
    → map view requests ≡ map ask ranges
    → length requests ≤ most
few-reads each places ranges requests ask most some few cut e =
    omega (
      arith,
      few,
      asked-length requests ranges ask e,
      places-length each places ranges some cut,
    )
