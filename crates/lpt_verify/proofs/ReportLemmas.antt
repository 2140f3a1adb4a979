-- The reports of a request: each is read again, and their subtypes rise.
use Rattle.std.proofs.Common.{rules, IsTrue, nat_cmp, ℕ, if◌then◌else◌, ◌<◌, ◌^◌, Bool, true, false, List, [], ◌∷◌, ◌++◌, map, Option, Some, None, IfSome, All, refl, sym, inl, inr, nat_le, append-nil}
use Rattle.std.proofs.lemmas.List.Elements.{All-append, All-cons, All-nil}
use Rattle.std.proofs.lemmas.Map.Keys.{IsStrictlyIncreasing-from_sorted}
use Rattle.std.specs.List.Sorted.{IsStrictlyIncreasing, IsStrictlySortedBy}
use Rattle.lpt_packet.specs.Numbers.{be}
use Rattle.lpt_pus.specs.declared.request.RequestId.{RequestId}
use Rattle.lpt_verify.specs.declared.report.EncodedReport.{EncodedReport}
use Rattle.lpt_verify.specs.Reports.{asks, success, failure, success_if, all_reports}
use Rattle.lpt_verify.specs.Reading.{is_success, is_failure, Names}

-- ---- what is written is read again

-- a report of success names its request
success-names : (request : RequestId) (code : Option ℕ) (subtype : ℕ)
    → request.value < 2 ^ 32
    → IsTrue (is_success subtype)
    → Names request code (success request.value subtype)
success-names request code subtype fits coded = record {
  read = record { request = request; code = None };
  is_read = record {
    is_coded = coded;
    request_fits = fits;
    code_fits = tt;
    spelled = sym (append-nil (be request.value 4));
  };
  of_request = refl;
  of_code = inl refl;
}

-- a report of failure names its request and its code
failure-names : (request : RequestId) (code subtype : ℕ)
    → request.value < 2 ^ 32
    → code < 2 ^ 16
    → IsTrue (is_failure subtype)
    → Names request (Some code) (failure request.value subtype code)
failure-names request code subtype fits code_fits coded = record {
  read = record { request = request; code = Some code };
  is_read = record {
    is_coded = coded;
    request_fits = fits;
    code_fits = code_fits;
    spelled = refl;
  };
  of_request = refl;
  of_code = inr refl;
}

-- a list of one has what that one has
one : (P : EncodedReport → Type 0) (e : EncodedReport) → P e → All P (e ∷ [])
one P e h = All-cons P e [] h (All-nil P)

-- and so does one that is there only where it is asked for
success_if-all : (P : EncodedReport → Type 0) (asked : Bool) (request subtype : ℕ)
    → P (success request subtype)
    → All P (success_if asked request subtype)
success_if-all P true request subtype h = one P (success request subtype) h
success_if-all P false request subtype h = All-nil P

-- what holds of both of two lists holds of the one that is chosen
either : (P : EncodedReport → Type 0) (b : Bool) (xs ys : List EncodedReport)
    → All P xs
    → All P ys
    → All P (if b then xs else ys)
either P true xs ys p q = p
either P false xs ys p q = q

-- all reports of a request name it
pub all_reports-names : (request : RequestId) (flags : ℕ) (code : Option ℕ)
    → request.value < 2 ^ 32
    → IfSome code (λ c. c < 2 ^ 16)
    → All (Names request code) (all_reports request.value flags code)
all_reports-names request flags None fits code_fits =
    let P : EncodedReport → Type 0 = Names request None in
    let v = request.value in
    let first : All P (success_if (asks flags 1) v 1) =
    success_if-all P (asks flags 1) v 1 (success-names request None 1 fits refl) in
    let second : All P (success_if (asks flags 2) v 3) =
    success_if-all P (asks flags 2) v 3 (success-names request None 3 fits refl) in
    let third : All P (success_if (asks flags 8) v 7) =
    success_if-all P (asks flags 8) v 7 (success-names request None 7 fits refl) in
    All-append P _ _ (All-append P _ _ first second) third
all_reports-names request flags (Some code) fits code_fits =
    let P : EncodedReport → Type 0 = Names request (Some code) in
    let v = request.value in
    let first : All P (success_if (asks flags 1) v 1) =
    success_if-all P (asks flags 1) v 1 (success-names request (Some code) 1 fits refl) in
    let start : All P (failure v 4 code ∷ []) =
    one P (failure v 4 code) (failure-names request code 4 fits code_fits refl) in
    let alone : All P (failure v 2 code ∷ []) =
    one P (failure v 2 code) (failure-names request code 2 fits code_fits refl) in
    All-append P _ _
    (either P (nat_le code 2) _ _ alone (All-append P _ _ first start)) (All-nil P)

-- ---- the subtypes rise

-- the message subtypes of reports
abbrev subtypes : List EncodedReport → List ℕ
subtypes reports = map (λ e. e.subtype) reports

-- those of the successes that are asked for are some of 1, 3 and 7
succeeded-sorted : (request : ℕ) (a b c : Bool)
    → IsStrictlySortedBy nat_cmp (subtypes
    ((success_if a request 1 ++ success_if b request 3) ++ success_if c request 7))
unfolding IsStrictlySortedBy
succeeded-sorted request true true true = search rules
succeeded-sorted request true true false = search rules
succeeded-sorted request true false true = search rules
succeeded-sorted request true false false = search rules
succeeded-sorted request false true true = search rules
succeeded-sorted request false true false = search rules
succeeded-sorted request false false true = search rules
succeeded-sorted request false false false = search rules

-- those of a failure are 2, or 1 and 4, or 4
failed-sorted : (request code : ℕ) (early a : Bool)
    → IsStrictlySortedBy nat_cmp (subtypes
    ((if early then failure request 2 code ∷ []
    else success_if a request 1 ++ failure request 4 code ∷ []) ++ []))
unfolding IsStrictlySortedBy
failed-sorted request code true a = search rules
failed-sorted request code false true = search rules
failed-sorted request code false false = search rules

-- the subtypes of a request's reports rise
pub all_reports-rise : (request flags : ℕ) (code : Option ℕ)
    → IsStrictlyIncreasing (map (λ e. e.subtype) (all_reports request flags code))
all_reports-rise request flags None =
    IsStrictlyIncreasing-from_sorted _
    (succeeded-sorted request (asks flags 1) (asks flags 2) (asks flags 8))
all_reports-rise request flags (Some code) =
    IsStrictlyIncreasing-from_sorted _
    (failed-sorted request code (nat_le code 2) (asks flags 1))
