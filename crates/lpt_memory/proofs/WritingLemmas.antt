-- A load that is written: its length, that it has a spelling, and what it means.
use Rattle.std.proofs.Common.{◌≡◌, ◌∙◌, ap, refl, ℕ, ◌+◌, ◌^◌, ◌<◌, ◌≤◌, ◌==◌, nat_lt, Bool, true, false, List, [], ◌∷◌, length, map, sum_by, Option, Some, None, arith, eq-eqb}
use Rattle.std.specs.List.{flat_map, AllByRecursion}
use Rattle.std.proofs.lemmas.Bool.{ltb-false, le-ltb}
use Rattle.std.proofs.lemmas.Bool.Decides.{nat_tests}
use Rattle.std.proofs.lemmas.Grind.{common_steps}
use Rattle.std.proofs.lemmas.List.{length-append, length-map}
use Rattle.std.proofs.lemmas.List.Concat.{flat_map-cons}
use Rattle.std.proofs.lemmas.List.Sums.{sum_by-cons}
use Rattle.lpt_packet.specs.Checksums.{checksum}
use Rattle.lpt_packet.specs.Numbers.{be}
use Rattle.lpt_packet.proofs.Registers.{checksum-fits}
use Rattle.lpt_pus.specs.declared.failure_code.FailureCode.{FailureCode}
use Rattle.lpt_pus.specs.Commands.{Command, command_in}
use Rattle.lpt_memory.specs.declared.request.Area.{Area}
use Rattle.lpt_memory.specs.Requests.{LoadArea, Request, front_load_area, request_in}
use Rattle.lpt_memory.specs.Meanings.{Load, Sizes, size_of, load_fault, area, unless, load_meaning, body_meaning, command_meaning, meaning}
use Rattle.lpt_memory.specs.Ranges.{AreasFit}
use Rattle.lpt_memory.specs.Spellings.{load_area_text, LoadAreaFits, AreAreas, area_stored, load_text, load_length, any_empty, write_fault}
use Rattle.lpt_memory.proofs.BodyLemmas.{load_area_again, body_again}
use Rattle.lpt_memory.proofs.BodyMeanings.{if_formed-known}

-- ---- the length

length-load_area_text : (a : Area) → length (load_area_text (area_stored a)) ≡ 8 + length a.octets
length-load_area_text a =
    omega (arith, length-append a.octets (be (checksum a.octets) 2))

length-areas : (areas : List Area)
    → length (flat_map load_area_text (map area_stored areas))
    ≡ sum_by (λ a. 8 + length a.octets) areas
length-areas [] = refl
length-areas (a ∷ rest) =
    let texts = flat_map load_area_text (map area_stored rest) in
    ap (λ (t : List ℕ). length t)
    (flat_map-cons load_area_text (area_stored a) (map area_stored rest))
    ∙ omega (
      arith,
      length-append (load_area_text (area_stored a)) texts,
      length-load_area_text a,
      length-areas rest,
      sum_by-cons (λ (b : Area). 8 + length b.octets) a rest,
    )

-- the body has two octets besides its areas
pub length-load_text : (memory : ℕ) (areas : List Area)
    → length (load_text memory areas) + 13 ≡ load_length areas
length-load_text memory areas = omega (arith, length-areas areas)

-- ---- the spelling

areas_spelled : (areas : List Area)
    → sum_by (λ a. 8 + length a.octets) areas ≤ 65527
    → any_empty areas ≡ false
    → AllByRecursion (λ a. a.address < 2 ^ 32) areas
    → AllByRecursion LoadAreaFits (map area_stored areas)
areas_spelled [] short some addresses = tt
areas_spelled (a ∷ rest) short some addresses =
    let sum = sum_by-cons (λ (b : Area). 8 + length b.octets) a rest in
    let none : (length a.octets == 0) ≡ false = grind (arith, common_steps, nat_tests) in
    let others : any_empty rest ≡ false = grind (arith, common_steps, nat_tests) in
    let above : 0 < length a.octets = grind (arith, nat_tests) in (
      record {
        address = addresses.0;
        some = above;
        len = omega (arith, sum);
        checksum =
            checksum-fits a.octets;
      },
      areas_spelled rest (omega (arith, sum)) others addresses.1,
    )

-- a load without a fault has 1 to 255 areas, none of them empty, and isn't too long
pub record IsWritable (areas : List Area) : Type 0 where
  pub fits : load_length areas ≤ 65542
  pub some : 0 < length areas
  pub few : length areas < 256
  pub full : any_empty areas ≡ false

pub is_writable : (areas : List Area) → write_fault areas ≡ None → IsWritable areas
is_writable areas e =
    go (nat_lt 65542 (load_length areas)) (length areas == 0) (nat_lt 255 (length areas))
    (any_empty areas) refl refl refl refl e where
      go : (long none many empty : Bool)
          → nat_lt 65542 (load_length areas) ≡ long
          → (length areas == 0) ≡ none
          → nat_lt 255 (length areas) ≡ many
          → any_empty areas ≡ empty
          → write_fault areas ≡ None
          → IsWritable areas
      go true none many empty p q r s f = absurd (grind (arith, common_steps, nat_tests))
      go false true many empty p q r s f = absurd (grind (arith, common_steps, nat_tests))
      go false false true empty p q r s f = absurd (grind (arith, common_steps, nat_tests))
      go false false false true p q r s f = absurd (grind (arith, common_steps, nat_tests))
      go false false false false p q r s f = record {
        fits = ltb-false _ _ p;
        some = grind (arith, nat_tests);
        few = omega (arith, ltb-false _ _ r);
        full = s;
      }

-- such a load has a spelling
pub load_spelled : (areas : List Area)
    → write_fault areas ≡ None
    → AllByRecursion (λ a. a.address < 2 ^ 32) areas
    → AreAreas LoadAreaFits (map area_stored areas)
load_spelled areas e addresses =
    let w = is_writable areas e in
    let count = length-map areas area_stored in (
      omega (arith, count, w.some),
      omega (arith, count, w.few),
      areas_spelled areas (omega (arith, w.fits)) w.full addresses,
    )

-- ---- the meaning

load_fault-stored : (size : ℕ) (areas : List Area)
    → AreasFit size areas
    → load_fault size (map area_stored areas) ≡ None
load_fault-stored size [] fit = refl
load_fault-stored size (a ∷ rest) fit =
    let within : nat_lt size (a.address + length a.octets) ≡ false = le-ltb _ _ fit.0 in
    let same : (checksum a.octets == checksum a.octets) ≡ true = eq-eqb _ _ refl in
    rw (within, same) (load_fault-stored size rest fit.1)

area-stored : (areas : List Area) → map area (map area_stored areas) ≡ areas
area-stored [] = refl
area-stored (a ∷ rest) = ap (λ (xs : List Area). a ∷ xs) (area-stored rest)

-- what is written means that load, in memories where it fits
pub load-meant : (c : Command) (o : List ℕ) (memory : ℕ) (areas : List Area) (sizes : Sizes)
    (size : ℕ)
    → c.service ≡ 6
    → c.subtype ≡ 2
    → c.body ≡ load_text memory areas
    → command_in c.apid o ≡ Some c
    → AreAreas LoadAreaFits (map area_stored areas)
    → size_of memory sizes ≡ Some size
    → AreasFit size areas
    → meaning c.apid sizes o ≡ Load memory areas
unfolding meaning body_meaning
load-meant c o memory areas sizes size service subtype body read fits known fit =
    let r : Request LoadArea = record { memory = memory; areas = map area_stored areas } in
    let formed = if_formed-known load_meaning sizes
    (request_in front_load_area (load_text memory areas)) r size
    (body_again front_load_area load_area_text LoadAreaFits load_area_again memory
    (map area_stored areas) fits) known in
    ap (command_meaning sizes) read
    ∙ ap (λ (s : ℕ). body_meaning sizes s c.subtype c.body) service
    ∙ ap (λ (s : ℕ). body_meaning sizes 6 s c.body) subtype
    ∙ ap (λ (b : List ℕ). body_meaning sizes 6 2 b) body
    ∙ formed
    ∙ ap (λ (f : Option FailureCode). unless f (Load memory (map area (map area_stored areas))))
    (load_fault-stored size areas fit)
    ∙ ap (λ (xs : List Area). Load memory xs) (area-stored areas)
