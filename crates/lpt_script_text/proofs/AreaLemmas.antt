-- The areas of a request that is read are those that stand first in its body.
use Rattle.std.proofs.Common.{◌≡◌, ◌∙◌, ap, sym, subst, refl, ℕ, zero, suc, ◌≤◌, ◌==◌, nat_lt, false, if◌then◌else◌, List, [], ◌∷◌, length, take, drop, Option, Some, None, arith}
use Rattle.std.proofs.lemmas.Bool.Decides.{nat_tests}
use Rattle.std.proofs.lemmas.List.{length-take-le}
use Rattle.lpt_memory.specs.declared.request.AreaRange.{AreaRange}
use Rattle.lpt_memory.specs.Fields.{◌>>=◌, front_word, front_long, front_octets, all_areas}
use Rattle.lpt_memory.specs.Requests.{LoadArea, Request, front_head, front_load_area, front_range, request_in}
use Rattle.lpt_memory.proofs.FieldLemmas.{bind_some, guard_some, some_is}
use Rattle.lpt_script_text.specs.Areas.{areas_at}

-- ---- the areas behind a head

-- they are as many as are read
count_is : {A : Type 0} (one : List ℕ → Option (A × List ℕ)) (n : ℕ) (octets : List ℕ)
    (xs : List A)
    → all_areas one n octets ≡ Some xs
    → length xs ≡ n
count_is one zero [] xs e = ap length (sym (some_is [] xs e))
count_is one zero (y ∷ octets) xs e = absurd cc
count_is one (suc n) octets xs e =
    let a = bind_some (one octets)
    (λ first. all_areas one n first.1 >>= λ others. Some (first.0 ∷ others)) xs e in
    let b = bind_some (all_areas one n a.0.1) (λ others. Some (a.0.0 ∷ others)) xs a.2 in
    ap length (sym (some_is (a.0.0 ∷ b.0) xs b.2)) ∙ ap suc (count_is one n a.0.1 b.0 b.1)

-- the first of them stands first
first_is : {A : Type 0} (one : List ℕ → Option (A × List ℕ)) (n : ℕ) (octets : List ℕ) (x : A)
    (xs : List A)
    → all_areas one n octets ≡ Some (x ∷ xs)
    → (behind : List ℕ) × (one octets ≡ Some (x, behind))
first_is one zero [] x xs e = absurd cc
first_is one zero (y ∷ octets) x xs e = absurd cc
first_is one (suc n) octets x xs e =
    let a = bind_some (one octets)
    (λ first. all_areas one n first.1 >>= λ others. Some (first.0 ∷ others)) (x ∷ xs) e in
    let b = bind_some (all_areas one n a.0.1) (λ others. Some (a.0.0 ∷ others)) (x ∷ xs) a.2 in
    let same : a.0.0 ≡ x = cc in
    (a.0.1, a.1 ∙ ap (λ y. Some (y, a.0.1)) same)

-- ---- a body

-- the head of a request that is read, and what its areas are read of
pub record HasParts {A : Type 0} (one : List ℕ → Option (A × List ℕ)) (body : List ℕ)
    (r : Request A) : Type 0 where
  pub count : ℕ
  pub rest : List ℕ
  pub head : front_head body ≡ Some (r.memory, count, rest)
  pub areas : all_areas one count rest ≡ Some r.areas

parts_of : {A : Type 0} (one : List ℕ → Option (A × List ℕ)) (body : List ℕ) (r : Request A)
    → request_in one body ≡ Some r
    → HasParts one body r
unfolding request_in
parts_of {A} one body r e =
    let h = bind_some (front_head body)
    (λ head. all_areas one head.1 head.2 >>=
    λ areas. Some (record { memory = head.0; areas = areas })) r e in
    let c = bind_some (all_areas one h.0.1 h.0.2)
    (λ areas. Some (record { memory = h.0.0; areas = areas })) r h.2 in
    subst (λ (q : Request A). HasParts one body q)
    (some_is (record { memory = h.0.0; areas = c.0 }) r c.2)
    (record { count = h.0.1; rest = h.0.2; head = h.1; areas = c.1 })

-- ---- the first area

-- a range is an address and a length
range_is : (octets : List ℕ) (address : ℕ) (behind : List ℕ) (len : ℕ) (rest : List ℕ)
    → front_long octets ≡ Some (address, behind)
    → front_word behind ≡ Some (len, rest)
    → (len == 0) ≡ false
    → front_range octets ≡ Some (record { address = address; len = len }, rest)
unfolding front_range
range_is octets address behind len rest h k some = rw (h, k, some) refl

-- an area of a load begins as one
load_begins : (octets : List ℕ) (a : LoadArea) (behind : List ℕ)
    → front_load_area octets ≡ Some (a, behind)
    → (rest : List ℕ)
    × (front_range octets ≡ Some (record { address = a.address; len = length a.octets }, rest))
unfolding front_load_area
load_begins octets a behind e =
    let last = λ (address : ℕ) (text : List ℕ) (checksum : ℕ × List ℕ).
    Some (record { address = address; octets = text; checksum = checksum.0 }, checksum.1) in
    let behind_text = λ (address : ℕ) (text : List ℕ × List ℕ).
    front_word text.1 >>= last address text.0 in
    let behind_len = λ (address : ℕ) (len : ℕ × List ℕ).
    front_octets len.0 len.1 >>= behind_text address in
    let p = bind_some (front_long octets) (λ address. front_word address.1 >>= behind_len address.0)
    (a, behind) e in
    let q = bind_some (front_word p.0.1) (behind_len p.0.0) (a, behind) p.2 in
    let t = bind_some (front_octets q.0.0 q.0.1) (behind_text p.0.0) (a, behind) q.2 in
    let s = bind_some (front_word t.0.1) (last p.0.0 t.0.0) (a, behind) t.2 in
    let made : LoadArea = record { address = p.0.0; octets = t.0.0; checksum = s.0.0 } in
    let is : made ≡ a =
    ap (λ (x : LoadArea × List ℕ). x.0) (some_is (made, s.0.1) (a, behind) s.2) in
    let some = guard_some (q.0.0 == 0)
    (if nat_lt (length q.0.1) q.0.0 then None else Some (take q.0.0 q.0.1, drop q.0.0 q.0.1))
    t.0 t.1 in
    let enough = guard_some (nat_lt (length q.0.1) q.0.0)
    (Some (take q.0.0 q.0.1, drop q.0.0 q.0.1)) t.0 some.1 in
    let text : t.0.0 ≡ take q.0.0 q.0.1 =
    ap (λ (x : List ℕ × List ℕ). x.0)
    (sym (some_is (take q.0.0 q.0.1, drop q.0.0 q.0.1) t.0 enough.1)) in
    let long : q.0.0 ≤ length q.0.1 = let h = enough.0 in grind (arith, nat_tests) in
    let size : length t.0.0 ≡ q.0.0 = ap length text ∙ length-take-le q.0.0 q.0.1 long in (
      q.0.1,
      range_is octets p.0.0 p.0.1 q.0.0 q.0.1 p.1 q.1 some.0
          ∙ (λ i. Some (record { address = p.0.0; len = sym size i }, q.0.1))
          ∙ (λ i. Some (record { address = (is i).address; len = length (is i).octets }, q.0.1)),
    )

-- ---- requests

-- the areas of a body, by its head and the range with which its first area begins
areas_are : (body : List ℕ) (memory n : ℕ) (rest : List ℕ) (r : AreaRange) (behind : List ℕ)
    → front_head body ≡ Some (memory, n, rest)
    → front_range rest ≡ Some (r, behind)
    → areas_at body ≡ Some (record { memory = memory; count = n; address = r.address; len = r.len })
areas_are body memory n rest r behind head range = rw (head, range) refl

pub load_areas : (body : List ℕ) (memory : ℕ) (a : LoadArea) (rest : List LoadArea)
    → request_in front_load_area body ≡ Some (record { memory = memory; areas = a ∷ rest })
    → areas_at body ≡ Some (record {
      memory = memory;
      count = length (a ∷ rest);
      address = a.address;
      len = length a.octets;
    })
load_areas body memory a rest e =
    let h = parts_of front_load_area body (record { memory = memory; areas = a ∷ rest }) e in
    let first = first_is front_load_area h.count h.rest a rest h.areas in
    let range = load_begins h.rest a first.0 first.1 in
    areas_are body memory h.count h.rest (record { address = a.address; len = length a.octets })
    range.0 h.head range.1
    ∙ ap (λ n. Some (record {
      memory = memory;
      count = n;
      address = a.address;
      len = length a.octets;
    })) (sym (count_is front_load_area h.count h.rest (a ∷ rest) h.areas))

pub range_areas : (body : List ℕ) (memory : ℕ) (r : AreaRange) (rest : List AreaRange)
    → request_in front_range body ≡ Some (record { memory = memory; areas = r ∷ rest })
    → areas_at body ≡ Some (record {
      memory = memory;
      count = length (r ∷ rest);
      address = r.address;
      len = r.len;
    })
range_areas body memory r rest e =
    let h = parts_of front_range body (record { memory = memory; areas = r ∷ rest }) e in
    let first = first_is front_range h.count h.rest r rest h.areas in
    areas_are body memory h.count h.rest r first.0 h.head first.1
    ∙ ap (λ n. Some (record {
      memory = memory;
      count = n;
      address = r.address;
      len = r.len;
    })) (sym (count_is front_range h.count h.rest (r ∷ rest) h.areas))
