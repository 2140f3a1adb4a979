-- A body that is read is the body that was written, and what was written is read again.
use Rattle.std.proofs.Common.{◌≡◌, ◌∙◌, ap, sym, subst, refl, ℕ, zero, suc, ◌<◌, ◌==◌, false, if◌then◌else◌, List, [], ◌∷◌, ◌++◌, length, Option, Some, None, append_assoc, arith}
use Rattle.std.specs.List.{flat_map, AllByRecursion}
use Rattle.std.proofs.lemmas.Bool.Decides.{nat_tests}
use Rattle.std.proofs.lemmas.List.Concat.{flat_map-cons}
use Rattle.lpt_packet.specs.Numbers.{be, IsOctets}
use Rattle.lpt_memory.specs.declared.request.AreaRange.{AreaRange}
use Rattle.lpt_memory.specs.Fields.{◌>>=◌, front_octet, front_word, front_long, front_octets, all_areas}
use Rattle.lpt_memory.specs.Requests.{LoadArea, Request, front_load_area, front_range, front_head, request_in}
use Rattle.lpt_memory.specs.Spellings.{load_area_text, range_text, body_text, LoadAreaFits, RangeFits, AreAreas}
use Rattle.lpt_memory.proofs.FieldLemmas.{bind_some, guard_some, some_is, Takes, Takes-then, octet_takes, octet_again, word_takes, word_again, long_takes, long_again, octets_take, octets_again}

-- ---- one area

pub load_area_takes : (octets : List ℕ) (x : LoadArea × List ℕ)
    → IsOctets octets
    → front_load_area octets ≡ Some x
    → Takes octets (load_area_text x.0) x.1 × LoadAreaFits x.0
unfolding front_load_area
load_area_takes octets x o e =
    let a = bind_some (front_long octets)
    (λ address. front_word address.1 >>= λ len. front_octets len.0 len.1 >>=
    λ text. front_word text.1 >>=
    λ checksum. Some (
      record {
        address = address.0;
        octets = text.0;
        checksum =
            checksum.0;
      },
      checksum.1,
    )) x e in
    let b = bind_some (front_word a.0.1)
    (λ len. front_octets len.0 len.1 >>= λ text. front_word text.1 >>=
    λ checksum. Some (
      record { address = a.0.0; octets = text.0; checksum = checksum.0 },
      checksum.1,
    )) x a.2 in
    let c = bind_some (front_octets b.0.0 b.0.1)
    (λ text. front_word text.1 >>=
    λ checksum. Some (
      record { address = a.0.0; octets = text.0; checksum = checksum.0 },
      checksum.1,
    )) x b.2 in
    let d = bind_some (front_word c.0.1)
    (λ checksum. Some (
      record { address = a.0.0; octets = c.0.0; checksum = checksum.0 },
      checksum.1,
    )) x c.2 in
    let t0 = long_takes octets a.0 o a.1 in
    let t1 = word_takes a.0.1 b.0 t0.0.rest_fits b.1 in
    let t2 = octets_take b.0.0 b.0.1 c.0 t1.0.rest_fits c.1 in
    let t3 = word_takes c.0.1 d.0 t2.0.rest_fits d.1 in
    let e23 = Takes-then b.0.1 c.0.0 c.0.1 (be d.0.0 2) d.0.1 t2.0 t3.0 in
    let e13 = Takes-then a.0.1 (be b.0.0 2) b.0.1 (c.0.0 ++ be d.0.0 2) d.0.1 t1.0 e23 in
    let e03 = Takes-then octets (be a.0.0 4) a.0.1
    (be b.0.0 2 ++ (c.0.0 ++ be d.0.0 2)) d.0.1 t0.0 e13 in
    let whole = subst (λ (k : ℕ). Takes octets
    (be a.0.0 4 ++ (be k 2 ++ (c.0.0 ++ be d.0.0 2))) d.0.1) (sym t2.1) e03 in
    let made : LoadArea × List ℕ =
    (record { address = a.0.0; octets = c.0.0; checksum = d.0.0 }, d.0.1) in
    subst (λ (y : LoadArea × List ℕ). Takes octets (load_area_text y.0) y.1 × LoadAreaFits y.0)
    (some_is made x d.2) (
      whole,
      record {
        address = t0.1;
        some = omega (arith, t2.1, t2.2);
        len =
            omega (arith, t2.1, t1.1);
        checksum = t3.1;
      },
    )

pub load_area_again : (a : LoadArea) (rest : List ℕ)
    → LoadAreaFits a
    → front_load_area (load_area_text a ++ rest) ≡ Some (a, rest)
unfolding front_load_area
load_area_again a rest fits =
    let n = length a.octets in
    let behind = be a.checksum 2 ++ rest in
    let regrouped : load_area_text a ++ rest ≡ be a.address 4 ++ (be n 2 ++ (a.octets ++ behind)) =
    append_assoc (be a.address 4) (be n 2 ++ (a.octets ++ be a.checksum 2)) rest
    ∙ ap (λ (x : List ℕ). be a.address 4 ++ (be n 2 ++ x))
    (append_assoc a.octets (be a.checksum 2) rest)
    in
    ap front_load_area regrouped
    ∙ rw (
      long_again a.address (be n 2 ++ (a.octets ++ behind)) fits.address,
      word_again n (a.octets ++ behind) fits.len,
      octets_again a.octets behind fits.some,
      word_again a.checksum rest fits.checksum,
    ) refl

pub range_takes : (octets : List ℕ) (x : AreaRange × List ℕ)
    → IsOctets octets
    → front_range octets ≡ Some x
    → Takes octets (range_text x.0) x.1 × RangeFits x.0
unfolding front_range
range_takes octets x o e =
    let a = bind_some (front_long octets)
    (λ address. front_word address.1 >>= λ len. if len.0 ==
    0 then None else Some (record { address = address.0; len = len.0 }, len.1)) x e in
    let b = bind_some (front_word a.0.1)
    (λ len. if len.0 == 0 then None else Some (record { address = a.0.0; len = len.0 }, len.1))
    x a.2 in
    let made : AreaRange × List ℕ = (record { address = a.0.0; len = b.0.0 }, b.0.1) in
    let g = guard_some (b.0.0 == 0) (Some made) x b.2 in
    let t0 = long_takes octets a.0 o a.1 in
    let t1 = word_takes a.0.1 b.0 t0.0.rest_fits b.1 in
    let both = Takes-then octets (be a.0.0 4) a.0.1 (be b.0.0 2) b.0.1 t0.0 t1.0 in
    let test : (b.0.0 == 0) ≡ false = g.0 in
    let above : 0 < b.0.0 = grind (arith, nat_tests) in
    subst (λ (y : AreaRange × List ℕ). Takes octets (range_text y.0) y.1 × RangeFits y.0)
    (some_is made x g.1)
    (both, record { address = t0.1; some = above; len = t1.1 })

pub range_again : (r : AreaRange) (rest : List ℕ)
    → RangeFits r
    → front_range (range_text r ++ rest) ≡ Some (r, rest)
unfolding front_range
range_again r rest fits =
    let some : (r.len == 0) ≡ false = grind (arith, nat_tests, fits.some) in
    rw (
      long_again r.address (be r.len 2 ++ rest) fits.address,
      word_again r.len rest fits.len,
      some,
    ) refl

-- ---- all areas

areas_take : {A : Type 0} (one : List ℕ → Option (A × List ℕ)) (text : A → List ℕ)
    (Fits : A → Type 0)
    → ((octets : List ℕ) (x : A × List ℕ) → IsOctets octets → one octets ≡ Some x
    → Takes octets (text x.0) x.1 × Fits x.0)
    → (n : ℕ) (octets : List ℕ) (xs : List A)
    → IsOctets octets
    → all_areas one n octets ≡ Some xs
    → (octets ≡ flat_map text xs) × (length xs ≡ n) × AllByRecursion Fits xs
areas_take {A} one text Fits takes zero [] xs o e =
    subst (λ (ys : List A). ([] ≡ flat_map text ys) × (length ys ≡ 0) × AllByRecursion Fits ys)
    (some_is [] xs e)
    (refl, refl, tt)
areas_take one text Fits takes zero (y ∷ octets) xs o e = absurd cc
areas_take {A} one text Fits takes (suc n) octets xs o e =
    let a = bind_some (one octets)
    (λ first. all_areas one n first.1 >>= λ others. Some (first.0 ∷ others)) xs e in
    let b = bind_some (all_areas one n a.0.1) (λ others. Some (a.0.0 ∷ others)) xs a.2 in
    let first = takes octets a.0 o a.1 in
    let rest = areas_take one text Fits takes n a.0.1 b.0 first.0.rest_fits b.1 in
    subst (λ (ys : List A). (octets ≡ flat_map text ys) × (length ys ≡ suc n)
    × AllByRecursion Fits ys) (some_is (a.0.0 ∷ b.0) xs b.2) (
      first.0.parts ∙ ap (λ (t : List ℕ). text a.0.0 ++ t) rest.0
          ∙ sym (flat_map-cons text a.0.0 b.0),
      ap suc rest.1,
      (first.1, rest.2),
    )

areas_again : {A : Type 0} (one : List ℕ → Option (A × List ℕ)) (text : A → List ℕ)
    (Fits : A → Type 0)
    → ((x : A) (rest : List ℕ) → Fits x → one (text x ++ rest) ≡ Some (x, rest))
    → (xs : List A)
    → AllByRecursion Fits xs
    → all_areas one (length xs) (flat_map text xs) ≡ Some xs
areas_again one text Fits again [] fits = refl
areas_again {A} one text Fits again (x ∷ xs) fits =
    let n = length xs in
    ap (λ (octets : List ℕ). all_areas one (suc n) octets) (flat_map-cons text x xs)
    ∙ ap (λ (r : Option (A × List ℕ)). r >>= λ first. all_areas one n first.1 >>=
    λ others. Some (first.0 ∷ others)) (again x (flat_map text xs) fits.0)
    ∙ ap (λ (r : Option (List A)). r >>= λ others. Some (x ∷ others))
    (areas_again one text Fits again xs fits.1)

-- ---- bodies

-- a body that is read is spelled so
pub body_takes : {A : Type 0} (one : List ℕ → Option (A × List ℕ)) (text : A → List ℕ)
    (Fits : A → Type 0)
    → ((octets : List ℕ) (x : A × List ℕ) → IsOctets octets → one octets ≡ Some x
    → Takes octets (text x.0) x.1 × Fits x.0)
    → (body : List ℕ) (r : Request A)
    → IsOctets body
    → request_in one body ≡ Some r
    → (body ≡ body_text text r.memory r.areas) × AreAreas Fits r.areas
unfolding request_in front_head
body_takes {A} one text Fits takes body r o e =
    let h = bind_some (front_head body)
    (λ head. all_areas one head.1 head.2 >>=
    λ areas. Some (record { memory = head.0; areas = areas })) r e in
    let a = bind_some (front_octet body)
    (λ memory. front_octet memory.1 >>= λ n. if n.0 ==
    0 then None else Some (memory.0, n.0, n.1)) h.0 h.1 in
    let b = bind_some (front_octet a.0.1)
    (λ n. if n.0 == 0 then None else Some (a.0.0, n.0, n.1)) h.0 a.2 in
    let g = guard_some (b.0.0 == 0) (Some (a.0.0, b.0.0, b.0.1)) h.0 b.2 in
    let t0 = octet_takes body a.0 o a.1 in
    let t1 = octet_takes a.0.1 b.0 t0.0.rest_fits b.1 in
    let head : (a.0.0, b.0.0, b.0.1) ≡ h.0 = some_is (a.0.0, b.0.0, b.0.1) h.0 g.1 in
    let c = bind_some (all_areas one h.0.1 h.0.2)
    (λ areas. Some (record { memory = h.0.0; areas = areas })) r h.2 in
    let areas = subst (λ (p : ℕ × ℕ × List ℕ). all_areas one p.1 p.2 ≡ Some c.0) (sym head) c.1 in
    let t2 = areas_take one text Fits takes b.0.0 b.0.1 c.0 t1.0.rest_fits areas in
    let test : (b.0.0 == 0) ≡ false = g.0 in
    let above : 0 < b.0.0 = grind (arith, nat_tests) in
    let made : Request A = record { memory = a.0.0; areas = c.0 } in
    let is_made : made ≡ r = ap (λ (p : ℕ × ℕ × List ℕ). record { memory = p.0; areas = c.0 }) head
    ∙ some_is (record { memory = h.0.0; areas = c.0 }) r c.2 in
    let whole : body ≡ body_text text a.0.0 c.0 =
    t0.0.parts
    ∙ ap (λ (t : List ℕ). a.0.0 ∷ t) t1.0.parts
    ∙ ap (λ (t : List ℕ). a.0.0 ∷ b.0.0 ∷ t) t2.0
    ∙ ap (λ (k : ℕ). a.0.0 ∷ k ∷ flat_map text c.0) (sym t2.1)
    in
    subst (λ (q : Request A). (body ≡ body_text text q.memory q.areas) × AreAreas Fits q.areas)
    is_made
    (whole, (omega (arith, t2.1, above), omega (arith, t2.1, t1.1), t2.2))

-- what is spelled so is read
pub body_again : {A : Type 0} (one : List ℕ → Option (A × List ℕ)) (text : A → List ℕ)
    (Fits : A → Type 0)
    → ((x : A) (rest : List ℕ) → Fits x → one (text x ++ rest) ≡ Some (x, rest))
    → (memory : ℕ) (xs : List A)
    → AreAreas Fits xs
    → request_in one (body_text text memory xs) ≡ Some (record { memory = memory; areas = xs })
unfolding request_in front_head
body_again one text Fits again memory xs fits =
    let n = length xs in
    let above : 0 < n = fits.0 in
    let some : (n == 0) ≡ false = grind (arith, nat_tests) in
    rw (
      octet_again memory (n ∷ flat_map text xs),
      octet_again n (flat_map text xs),
      some,
      areas_again one text Fits again xs fits.2,
    ) refl
