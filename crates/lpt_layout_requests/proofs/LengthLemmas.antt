-- How long the bodies of requests are, and that their subtypes fit an octet.
use Rattle.std.proofs.Common.{◌≡◌, ◌∙◌, ap, refl, ℕ, ◌*◌, ◌<◌, ◌≤◌, ◌==◌, ◌||◌, nat_lt, Bool, true, false, if◌then◌else◌, List, [], ◌∷◌, length, map, Some, None, arith}
use Rattle.std.specs.List.{flat_map}
use Rattle.std.proofs.lemmas.Bool.Decides.{nat_tests}
use Rattle.std.proofs.lemmas.List.{length-append}
use Rattle.std.proofs.lemmas.List.Concat.{flat_map-cons}
use Rattle.lpt_memory.specs.declared.fault.MemoryFault.{MemoryFault}
use Rattle.lpt_memory.specs.Spellings.{body_text, range_text}
use Rattle.lpt_memory.proofs.WritingLemmas.{is_writable, length-load_text}
use Rattle.lpt_requests.specs.declared.request.Range.{Range}
use Rattle.lpt_requests.specs.declared.request.Request.{Request}
use Rattle.lpt_requests.specs.declared.request.Request.TheVariants.{Load, Dump, Check}
use Rattle.lpt_requests.specs.Requests.{any_empty, as_range, range_fault, request_fault, request_text, subtype_of}

length-ranges : (ranges : List Range)
    → length (flat_map range_text (map as_range ranges)) ≡ 6 * length ranges
length-ranges [] = refl
length-ranges (r ∷ rest) =
    let texts = flat_map range_text (map as_range rest) in
    ap (λ (t : List ℕ). length t) (flat_map-cons range_text (as_range r) (map as_range rest))
    ∙ omega (arith, length-append (range_text (as_range r)) texts, length-ranges rest)

not-many : (none many empty : Bool) (e : MemoryFault)
    → (if none || many || empty then Some e else None) ≡ None
    → many ≡ false
not-many true many empty e h = absurd cc
not-many false true empty e h = absurd cc
not-many false false empty e h = refl

ranges-short : (memory : ℕ) (ranges : List Range)
    → range_fault ranges ≡ None
    → length (body_text range_text memory (map as_range ranges)) ≤ 65529
ranges-short memory ranges none =
    let many : nat_lt 255 (length ranges) ≡ false =
    not-many (length ranges == 0) (nat_lt 255 (length ranges)) (any_empty ranges) _ none in
    let few : length ranges ≤ 255 = grind (arith, nat_tests) in
    omega (arith, length-ranges ranges, few)

-- the body of a request that has no fault fits a packet of the profile
pub text-short : (r : Request) → request_fault r ≡ None → length (request_text r) ≤ 65529
text-short (Load memory areas) none =
    omega (arith, length-load_text memory areas.items, (is_writable areas.items none).fits)
text-short (Dump memory ranges) none = ranges-short memory ranges.items none
text-short (Check memory ranges) none = ranges-short memory ranges.items none

pub subtype-small : (r : Request) → subtype_of r < 256
subtype-small (Load memory areas) = omega arith
subtype-small (Dump memory ranges) = omega arith
subtype-small (Check memory ranges) = omega arith
