-- A body is the report that is read in it, and each report is read in its body.
use Rattle.std.proofs.Common.{◌≡◌, ◌∙◌, ap, sym, refl, subst, ℕ, ◌+◌, ◌*◌, ◌<◌, ◌^◌, ◌==◌, ◌&&◌, Bool, true, false, if◌then◌else◌, List, [], ◌∷◌, ◌++◌, length, Option, Some, None, IfSome, IsTrue, eqb-true, arith}
use Rattle.std.proofs.lemmas.Bool.Decides.{nat_tests}
use Rattle.std.proofs.lemmas.Bool.{false_from_ne_true, eq-eqb}
use Rattle.std.specs.Prelude.{◌↔◌}
use Rattle.lpt_packet.specs.Numbers.{be, word_at, IsOctets}
use Rattle.lpt_packet.proofs.Codec.{word_cells}
use Rattle.lpt_pus.specs.Numbers.{long_at}
use Rattle.lpt_pus.proofs.LongLemmas.{be-long}
use Rattle.lpt_verify.specs.declared.report.Report.{Report}
use Rattle.lpt_verify.specs.Reading.{IsReport, is_success, is_failure, IsCoded, code_text, report_at, report_in}

-- ---- each report is read

-- a report, by its parts
abbrev report_of : ℕ → Option ℕ → Report
report_of n code = record { request = record { value = n }; code = code }

-- the number in the first four octets
value_of : (n : ℕ) (rest : List ℕ) → n < 2 ^ 32 → long_at (be n 4 ++ rest) 0 ≡ n
value_of n rest fits = omega arith

-- the number in the two after them
code_of : (n code : ℕ) → code < 2 ^ 16 → word_at (be n 4 ++ be code 2) 4 ≡ code
code_of n code fits = omega arith

-- no subtype is both of success and of failure
apart : (subtype : ℕ) → IsTrue (is_success subtype) → IsTrue (is_failure subtype) → ⊥
apart subtype success failure = grind (arith, nat_tests)

-- a report's body is read as this report
spelled_read : (subtype n : ℕ) (code : Option ℕ)
    → IsCoded subtype code
    → n < 2 ^ 32
    → IfSome code (λ c. c < 2 ^ 16)
    → report_in subtype (be n 4 ++ code_text code) ≡ Some (report_of n code)
unfolding report_in
spelled_read subtype n None coded fits code_fits =
    rw coded (ap (λ v. Some (report_of v None)) (value_of n [] fits))
spelled_read subtype n (Some code) coded fits code_fits =
    let other : is_success subtype ≡ false =
    false_from_ne_true (is_success subtype) (λ h. apart subtype h coded) in
    rw other (rw coded
    (ap (λ v. Some (report_of v (Some (word_at (be n 4 ++ be code 2) 4))))
    (value_of n (be code 2) fits)
    ∙ ap (λ c. Some (report_of n (Some c))) (code_of n code code_fits)))

-- each report is read
pub IsReport-read : (subtype : ℕ) (b : List ℕ) (r : Report)
    → IsReport subtype b r
    → report_in subtype b ≡ Some r
IsReport-read subtype b r h =
    ap (report_in subtype) h.spelled
    ∙ spelled_read subtype r.request.value r.code h.is_coded h.request_fits h.code_fits

-- a body is read in one way at most
pub IsReport-one : (subtype : ℕ) (b : List ℕ) (q r : Report)
    → IsReport subtype b q
    → IsReport subtype b r
    → q ≡ r
IsReport-one subtype b q r p s =
    let same : Some q ≡ Some r = sym (IsReport-read subtype b q p) ∙ IsReport-read subtype b r s in
    cc

-- ---- what stands at the places of a report is read

-- four octets of a subtype of success
pub success-read : (subtype : ℕ) (b : List ℕ)
    → IsTrue (is_success subtype)
    → length b ≡ 4
    → report_in subtype b ≡ Some (report_at b None)
unfolding report_in
success-read subtype b success long = rw (success, eq-eqb (length b) 4 long) refl

-- six octets of a subtype of failure
pub failure-read : (subtype : ℕ) (b : List ℕ)
    → IsTrue (is_failure subtype)
    → length b ≡ 6
    → report_in subtype b ≡ Some (report_at b (Some (word_at b 4)))
unfolding report_in
failure-read subtype b failure long =
    let other : is_success subtype ≡ false =
    false_from_ne_true (is_success subtype) (λ h. apart subtype h failure) in
    rw (other, failure, eq-eqb (length b) 6 long) refl

-- ---- what is read

-- a number of four octets fits 32 bits
long_fits : (b : List ℕ) → IsOctets b → long_at b 0 < 2 ^ 32
long_fits b o = omega (arith, o 0, o 1, o 2, o 3)

-- four octets are a report of success
four_spelled : (b : List ℕ) → IsOctets b → length b ≡ 4 → b ≡ be (long_at b 0) 4 ++ []
four_spelled [] o l = absurd (omega arith)
four_spelled (x ∷ []) o l = absurd (omega arith)
four_spelled (x ∷ y ∷ []) o l = absurd (omega arith)
four_spelled (x ∷ y ∷ z ∷ []) o l = absurd (omega arith)
four_spelled (x ∷ y ∷ z ∷ w ∷ []) o l =
    sym (ap (λ c. c ++ []) (be-long x y z w (o 0) (o 1) (o 2) (o 3)))
four_spelled (x ∷ y ∷ z ∷ w ∷ u ∷ rest) o l = absurd (omega arith)

-- six octets are a report of failure
six_spelled : (b : List ℕ)
    → IsOctets b
    → length b ≡ 6
    → b ≡ be (long_at b 0) 4 ++ be (word_at b 4) 2
six_spelled [] o l = absurd (omega arith)
six_spelled (x ∷ []) o l = absurd (omega arith)
six_spelled (x ∷ y ∷ []) o l = absurd (omega arith)
six_spelled (x ∷ y ∷ z ∷ []) o l = absurd (omega arith)
six_spelled (x ∷ y ∷ z ∷ w ∷ []) o l = absurd (omega arith)
six_spelled (x ∷ y ∷ z ∷ w ∷ u ∷ []) o l = absurd (omega arith)
six_spelled (x ∷ y ∷ z ∷ w ∷ u ∷ v ∷ []) o l =
    let request : be (long_at (x ∷ y ∷ z ∷ w ∷ u ∷ v ∷ []) 0) 4 ≡ x ∷ y ∷ z ∷ w ∷ [] =
    be-long x y z w (o 0) (o 1) (o 2) (o 3) in
    let code : be (256 * u + v) 2 ≡ u ∷ v ∷ [] = word_cells u v (o 4) (o 5) in
    sym (ap (λ c. c ++ be (256 * u + v) 2) request ∙ ap (λ c. x ∷ y ∷ z ∷ w ∷ c) code)
six_spelled (x ∷ y ∷ z ∷ w ∷ u ∷ v ∷ t ∷ rest) o l = absurd (omega arith)

-- where two tests hold, each does
both : (a b : Bool) → (a && b) ≡ true → (a ≡ true) × (b ≡ true)
both true b h = (refl, h)
both false b h = absurd cc

-- what stands at the places of a report of success
success_found : (subtype : ℕ) (b : List ℕ)
    → IsOctets b
    → (is_success subtype && length b == 4) ≡ true
    → IsReport subtype b (report_at b None)
success_found subtype b o h = record {
  is_coded = (both _ _ h).0;
  request_fits = long_fits b o;
  code_fits = tt;
  spelled = four_spelled b o (eqb-true _ _ (both _ _ h).1);
}

-- what stands at the places of a report of failure
failure_found : (subtype : ℕ) (b : List ℕ)
    → IsOctets b
    → (is_failure subtype && length b == 6) ≡ true
    → IsReport subtype b (report_at b (Some (word_at b 4)))
failure_found subtype b o h = record {
  is_coded = (both _ _ h).0;
  request_fits = long_fits b o;
  code_fits = omega (arith, o 4, o 5);
  spelled = six_spelled b o (eqb-true _ _ (both _ _ h).1);
}

-- what holds of both of two reports holds of the one that is chosen
chosen : (P : Report → Type 0) (first second : Bool) (p q r : Report)
    → (first ≡ true → P p)
    → (second ≡ true → P q)
    → (if first then Some p else if second then Some q else None) ≡ Some r
    → P r
chosen P true second p q r hp hq h = let same : p ≡ r = cc in subst P same (hp refl)
chosen P false true p q r hp hq h = let same : q ≡ r = cc in subst P same (hq refl)
chosen P false false p q r hp hq h = absurd cc

-- what is read is a report
pub report_in-found : (subtype : ℕ) (b : List ℕ) (r : Report)
    → IsOctets b
    → report_in subtype b ≡ Some r
    → IsReport subtype b r
unfolding report_in
report_in-found subtype b r o h =
    chosen (IsReport subtype b) (is_success subtype && length b == 4)
    (is_failure subtype && length b == 6) (report_at b None)
    (report_at b (Some (word_at b 4))) r (success_found subtype b o) (failure_found subtype b o) h

-- a list of octets reads as a report exactly where it is one
pub report_in-IsReport : (subtype : ℕ) (b : List ℕ) (r : Report)
    → IsOctets b
    → (report_in subtype b ≡ Some r) ↔ IsReport subtype b r
report_in-IsReport subtype b r o = (report_in-found subtype b r o, IsReport-read subtype b r)
