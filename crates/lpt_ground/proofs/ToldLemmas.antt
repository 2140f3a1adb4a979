-- What settled a request was heard.
use Rattle.std.proofs.Common.{◌≡◌, ◌∙◌, refl, sym, ap, subst, ℕ, zero, suc, Bool, true, List, [], ◌∷◌, ◌⊎◌, inl, inr, Option, Some, None, set}
use Rattle.std.specs.Prelude.{position, option_map}
use Rattle.std.specs.List.{slice_get}
use Rattle.std.proofs.lemmas.Bool.{and_parts, cases_eq}
use Rattle.std.proofs.lemmas.List.Quantifiers.{position-Some}
use Rattle.std.proofs.lemmas.Option.{get_or_from_slice_get}
use Rattle.lpt_pus.specs.Telemetry.{Telemetry}
use Rattle.lpt_ground.specs.declared.asked.Asked.{Asked}
use Rattle.lpt_ground.specs.declared.asked.Terms.{Terms}
use Rattle.lpt_ground.specs.declared.telling.Said.{Said}
use Rattle.lpt_ground.specs.Passes.{PassState, octets_heard}
use Rattle.lpt_ground.specs.Telling.{fate_by, request_fated, is_waiting, report_of, said_at, said_first, said_in, said_of, said_there, settles, requests_told}

-- ---- places

other-place : (xs : List Asked) (k i : ℕ) (a : Asked)
    → (i ≡ k → ⊥)
    → slice_get (set xs k a) i ≡ slice_get xs i
other-place [] k i a other = refl
other-place (x ∷ xs) zero zero a other = absurd (other refl)
other-place (x ∷ xs) zero (suc i) a other = refl
other-place (x ∷ xs) (suc k) zero a other = refl
other-place (x ∷ xs) (suc k) (suc i) a other = other-place xs k i a (λ e. other (ap suc e))

same-place : (xs : List Asked) (k : ℕ) (a b : Asked)
    → slice_get xs k ≡ Some b
    → slice_get (set xs k a) k ≡ Some a
same-place [] k a b is = absurd cc
same-place (x ∷ xs) zero a b is = refl
same-place (x ∷ xs) (suc k) a b is = same-place xs k a b is

-- ---- a packet

-- of the request at this place it was said, which waited, and it is there with its fate
pub record IsTold (starts : Bool) (t : Telemetry) (o : List ℕ) (k : ℕ) (a : Asked)
    (ys : List Asked) : Type 0 where
  pub said : Said
  pub says : said_of starts t a ≡ Some said
  pub waited : is_waiting a ≡ true
  pub is_there : slice_get ys k ≡ Some (record a { fate = fate_by said o })

-- the request at this place is as it was, or was told
abbrev Fares : (starts : Bool) → Telemetry → (o : List ℕ) → (k : ℕ) → Asked → List Asked → Type 0
Fares starts t o k a ys = (slice_get ys k ≡ Some a) ⊎ IsTold starts t o k a ys

told-there : (starts : Bool) (t : Telemetry) (xs : List Asked) (o : List ℕ) (k j : ℕ)
    (a b : Asked) (f : Said)
    → position (settles starts t) xs ≡ Some j
    → slice_get xs k ≡ Some a
    → slice_get xs j ≡ Some b
    → said_of starts t b ≡ Some f
    → Fares starts t o k a (set xs j (record b { fate = fate_by f o }))
told-there starts t xs o k j a b f first is there says =
    elim (cases_eq k j) [
      | inl same ↦
          (let same_one : b ≡ a = cc in
          let at = position-Some (settles starts t) xs j b first in
          let b_settles : settles starts t b ≡ true =
          ap (settles starts t) (sym (get_or_from_slice_get xs j b b there)) ∙ at.1 in
          let waits = and_parts (is_waiting b) _ b_settles in
          inr (record {
            said = f;
            says = ap (said_of starts t) (sym same_one) ∙ says;
            waited = ap is_waiting (sym same_one) ∙ waits.0;
            is_there =
                subst (λ (i : ℕ). slice_get (set xs j (record b { fate = fate_by f o })) i
                ≡ Some (record a { fate = fate_by f o })) (sym same)
                (same-place xs j (record b { fate = fate_by f o }) b there
                ∙ ap (λ (c : Asked). Some (record c { fate = fate_by f o })) same_one);
          }))
      | inr other ↦ inl (other-place xs j k (record b { fate = fate_by f o }) other ∙ is)
    ]

told-said : (starts : Bool) (t : Telemetry) (xs : List Asked) (o : List ℕ) (k j : ℕ)
    (a b : Asked) (m : Option Said)
    → position (settles starts t) xs ≡ Some j
    → slice_get xs k ≡ Some a
    → slice_get xs j ≡ Some b
    → said_of starts t b ≡ m
    → Fares starts t o k a (requests_told xs o (option_map {U = ℕ × Said} (λ s. (j, s)) m))
told-said starts t xs o k j a b None first is there says = inl is
told-said starts t xs o k j a b (Some f) first is there says =
    subst (λ (e : Option Asked). Fares starts t o k a (request_fated xs j (fate_by f o) e))
    (sym there)
    (told-there starts t xs o k j a b f first is there says)

told-entry : (starts : Bool) (t : Telemetry) (xs : List Asked) (o : List ℕ) (k j : ℕ) (a : Asked)
    (e : Option Asked)
    → position (settles starts t) xs ≡ Some j
    → slice_get xs k ≡ Some a
    → slice_get xs j ≡ e
    → Fares starts t o k a
    (requests_told xs o (option_map {U = ℕ × Said} (λ s. (j, s)) (said_there starts t e)))
told-entry starts t xs o k j a None first is there = inl is
told-entry starts t xs o k j a (Some b) first is there =
    told-said starts t xs o k j a b (said_of starts t b) first is there refl

told-place : (starts : Bool) (t : Telemetry) (xs : List Asked) (o : List ℕ) (k : ℕ) (a : Asked)
    (p : Option ℕ)
    → position (settles starts t) xs ≡ p
    → slice_get xs k ≡ Some a
    → Fares starts t o k a (requests_told xs o (said_at starts t xs p))
told-place starts t xs o k a None first is = inl is
told-place starts t xs o k a (Some j) first is =
    told-entry starts t xs o k j a (slice_get xs j) first is refl

-- the request at this place is as it was, or was told by this report
pub record WasHeard (terms : Terms) (o : List ℕ) (k : ℕ) (a : Asked)
    (ys : List Asked) : Type 0 where
  pub report : Telemetry
  pub is_report : report_of terms o ≡ Some report
  pub is_told : IsTold terms.starts report o k a ys

heard-by : (terms : Terms) (xs : List Asked) (o : List ℕ) (k : ℕ) (a : Asked)
    (r : Option Telemetry)
    → report_of terms o ≡ r
    → slice_get xs k ≡ Some a
    → (slice_get (requests_told xs o (said_first terms.starts xs r)) k ≡ Some a)
    ⊎ WasHeard terms o k a (requests_told xs o (said_first terms.starts xs r))
heard-by terms xs o k a None by is = inl is
heard-by terms xs o k a (Some t) by is =
    elim (told-place terms.starts t xs o k a (position (settles terms.starts t) xs) refl is) [
      | inl same ↦ inl same
      | inr one ↦ inr (record { report = t; is_report = by; is_told = one })
    ]

pub heard-fares : (terms : Terms) (s : PassState) (o : List ℕ) (k : ℕ) (a : Asked)
    → slice_get s.asked k ≡ Some a
    → (slice_get (octets_heard terms s o).asked k ≡ Some a)
    ⊎ WasHeard terms o k a (octets_heard terms s o).asked
unfolding octets_heard said_in
heard-fares terms s o k a is = heard-by terms s.asked o k a (report_of terms o) refl is
