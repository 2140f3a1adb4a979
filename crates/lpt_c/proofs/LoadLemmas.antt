-- What a load that is written means.
use Rattle.std.proofs.Common.{◌≡◌, ◌∙◌, ap, refl, ℕ, ◌+◌, ◌^◌, ◌<◌, ◌≤◌, ◌==◌, nat_lt, true, false, [], ◌∷◌, length, Option, None, arith, eq-eqb}
use Rattle.std.proofs.lemmas.Bool.{le-ltb}
use Rattle.lpt_packet.specs.Checksums.{checksum}
use Rattle.lpt_packet.proofs.Registers.{checksum-fits}
use Rattle.lpt_pus.specs.declared.failure_code.FailureCode.{FailureCode}
use Rattle.lpt_memory.specs.declared.request.Area.{Area}
use Rattle.lpt_memory.specs.Meanings.{Load, load_fault, unless, load_meaning, body_meaning}
use Rattle.lpt_memory.specs.Requests.{LoadArea, Request, front_load_area, request_in}
use Rattle.lpt_memory.specs.Spellings.{load_area_text, area_stored, LoadAreaFits}
use Rattle.lpt_memory.proofs.BodyLemmas.{load_area_again, body_again}
use Rattle.lpt_memory.proofs.BodyMeanings.{if_formed-known}
use Rattle.lpt_c.specs.Loads.{load_body, MeansLoad}

-- an area of octets that have a spelling
fits : (a : Area)
    → a.address < 2 ^ 32
    → 0 < length a.octets
    → length a.octets ≤ 65519
    → LoadAreaFits (area_stored a)
fits a address some short = record {
  address = address;
  some = some;
  len = omega (arith, short);
  checksum = checksum-fits a.octets;
}

pub load_meant : (memory : ℕ) (a : Area)
    → a.address < 2 ^ 32
    → 0 < length a.octets
    → length a.octets ≤ 65519
    → MeansLoad (load_body memory a) memory a
unfolding body_meaning
load_meant memory a address some short sizes size known within =
    let r : Request LoadArea = record { memory = memory; areas = area_stored a ∷ [] } in
    let inside : nat_lt size (a.address + length a.octets) ≡ false = le-ltb _ _ within in
    let same : (checksum a.octets == checksum a.octets) ≡ true = eq-eqb _ _ refl in
    let none : load_fault size (area_stored a ∷ []) ≡ None = rw (inside, same) refl in
    if_formed-known load_meaning sizes (request_in front_load_area (load_body memory a)) r size
    (body_again front_load_area load_area_text LoadAreaFits load_area_again memory
    (area_stored a ∷ [])
    (omega arith, omega arith, (fits a address some short, tt))) known
    ∙ ap (λ (f : Option FailureCode). unless f (Load memory (a ∷ []))) none
