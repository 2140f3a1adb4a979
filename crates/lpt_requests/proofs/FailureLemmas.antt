-- Reports of this project's form, read as those of any spacecraft.
use Rattle.std.proofs.Common.{◌≡◌, ◌∙◌, ap, sym, refl, subst, ℕ, ◌<◌, ◌≤◌, ◌^◌, ◌==◌, ◌&&◌, nat_le, Bool, true, false, if◌then◌else◌, List, ◌++◌, length, Option, Some, None, IsTrue, eqb-true, arith}
use Rattle.std.specs.Prelude.{not}
use Rattle.std.specs.Option.{option_map}
use Rattle.std.proofs.lemmas.Bool.{and_parts, false_from_ne_true}
use Rattle.std.proofs.lemmas.Bool.Decides.{nat_tests}
use Rattle.lpt_packet.specs.Numbers.{be, word_at}
use Rattle.lpt_packet.proofs.BoolLemmas.{le_true}
use Rattle.lpt_pus.specs.declared.failure_code.FailureCode.{FailureCode}
use Rattle.lpt_pus.specs.declared.failure_code.FailureCode.TheVariants.{UnknownRequest, MalformedBody, UnknownMemory, OutOfRange, WrongChecksum, ReplyTooLong, NoFreeIdentifier, TooManyOpen}
use Rattle.lpt_pus.specs.declared.request.RequestId.{RequestId}
use Rattle.lpt_pus.specs.Codes.{number_of}
use Rattle.lpt_pus.specs.Numbers.{long_at}
use Rattle.lpt_verify.specs.declared.report.Report.{Report}
use Rattle.lpt_verify.specs.Reading.{is_failure, is_success, report_at, report_in}
use Rattle.lpt_requests.specs.declared.notice.FailureNotice.TheVariants.{Code, Unread}
use Rattle.lpt_requests.specs.declared.reading_failures.RequestReport.{RequestReport}
use Rattle.lpt_requests.specs.Failures.{any_report_in, as_own, as_success, failure_of, fails, has_code, notice_in, notice_of, success_of}

-- ---- subtypes

no-failure : (subtype : ℕ) → IsTrue (is_success subtype) → IsTrue (fails subtype) → ⊥
no-failure subtype success failure = grind (arith, nat_tests)

of-failure : (subtype : ℕ) → IsTrue (is_failure subtype) → fails subtype ≡ true
of-failure subtype failure = grind (arith, nat_tests)

of-no-step : (subtype : ℕ) → IsTrue (is_failure subtype) → not (subtype == 6) ≡ true
of-no-step subtype failure = grind (arith, nat_tests)

-- ---- what this project's reports say

-- octets that are no report of failure, or too few
any-other : (subtype : ℕ) (body : List ℕ) → (fails subtype && nat_le 4 (length body)) ≡ false
    → any_report_in subtype body ≡ option_map as_success (report_in subtype body)
unfolding any_report_in
any-other subtype body other = rw other refl

any-failure : (subtype : ℕ) (body : List ℕ) → (fails subtype && nat_le 4 (length body)) ≡ true
    → any_report_in subtype body ≡ Some (failure_of subtype (long_at body 0) body)
unfolding any_report_in
any-failure subtype body failed = rw failed refl

none-fails : (a b : Bool) → a ≡ false → (a && b) ≡ false
none-fails false b is = refl
none-fails true b is = absurd cc

both : (a b : Bool) → a ≡ true → b ≡ true → (a && b) ≡ true
both true b one two = two
both false b one two = absurd cc

own-success : (subtype : ℕ) (body : List ℕ)
    → report_in subtype body ≡ Some (report_at body None)
    → IsTrue (is_success subtype)
    → any_report_in subtype body ≡ Some (as_own subtype (report_at body None))
own-success subtype body read success =
    let other : fails subtype ≡ false =
    false_from_ne_true (fails subtype) (no-failure subtype success) in
    any-other subtype body (none-fails (fails subtype) (nat_le 4 (length body)) other)
    ∙ ap (option_map as_success) read

own-failure : (subtype : ℕ) (body : List ℕ)
    → IsTrue (is_failure subtype)
    → (length body == 6) ≡ true
    → any_report_in subtype body ≡ Some (as_own subtype (report_at body (Some (word_at body 4))))
own-failure subtype body failure six =
    let long : length body ≡ 6 = eqb-true _ _ six in
    let fits : nat_le 4 (length body) ≡ true = le_true 4 (length body) (omega (arith, long)) in
    let coded : has_code subtype (length body) ≡ true =
    both (not (subtype == 6)) (length body == 6) (of-no-step subtype failure) six in
    any-failure subtype body
    (both (fails subtype) (nat_le 4 (length body)) (of-failure subtype failure) fits)
    ∙ ap (λ (b : Bool). Some (record {
      request = record { value = long_at body 0 };
      failure = Some (if b then notice_of subtype (word_at body 4) else Unread);
    })) coded

own-tested : (subtype : ℕ) (body : List ℕ) (r : Report) (success failure : Bool)
    → (is_success subtype && length body == 4) ≡ success
    → (is_failure subtype && length body == 6) ≡ failure
    → report_in subtype body ≡ Some r
    → (if success then Some (report_at body None)
    else if failure then Some (report_at body (Some (word_at body 4)))
    else None) ≡ Some r
    → any_report_in subtype body ≡ Some (as_own subtype r)
own-tested subtype body r true failure s_is f_is read is =
    let same : report_at body None ≡ r = cc in
    let parts = and_parts (is_success subtype) (length body == 4) s_is in
    subst (λ (z : Report). any_report_in subtype body ≡ Some (as_own subtype z)) same
    (own-success subtype body (read ∙ ap (λ (z : Report). Some z) (sym same)) parts.0)
own-tested subtype body r false true s_is f_is read is =
    let same : report_at body (Some (word_at body 4)) ≡ r = cc in
    let parts = and_parts (is_failure subtype) (length body == 6) f_is in
    subst (λ (z : Report). any_report_in subtype body ≡ Some (as_own subtype z)) same
    (own-failure subtype body parts.0 parts.1)
own-tested subtype body r false false s_is f_is read is = absurd cc

by-tests : (subtype : ℕ) (body : List ℕ) (r : Report)
    → report_in subtype body ≡ Some r
    → (if is_success subtype && length body == 4 then Some (report_at body None)
    else if is_failure subtype && length body == 6
    then Some (report_at body (Some (word_at body 4)))
    else None) ≡ Some r
unfolding report_in
by-tests subtype body r read = read

-- a report of this project's form says what it says there
pub own-read : (subtype : ℕ) (body : List ℕ) (r : Report)
    → report_in subtype body ≡ Some r
    → any_report_in subtype body ≡ Some (as_own subtype r)
own-read subtype body r read =
    own-tested subtype body r (is_success subtype && length body == 4)
    (is_failure subtype && length body == 6) refl refl read (by-tests subtype body r read)

-- each failure code of this service is known in the report in which it sends it
pub own-code : (code : FailureCode)
    → notice_of (if nat_le (number_of code) 2 then 2 else 4) (number_of code)
    ≡ Code (number_of code)
own-code UnknownRequest = refl
own-code MalformedBody = refl
own-code UnknownMemory = refl
own-code OutOfRange = refl
own-code WrongChecksum = refl
own-code ReplyTooLong = refl
own-code NoFreeIdentifier = refl
own-code TooManyOpen = refl

-- ---- reports of success

no-code : (subtype : ℕ) (code : Option ℕ) → option_map (notice_of subtype) code ≡ None
    → code ≡ None
no-code subtype None is = refl
no-code subtype (Some code) is = absurd cc

-- a report, by its parts
abbrev with-code : RequestId → Option ℕ → Report
with-code request code = record { request = request; code = code }

as-own-success : (subtype : ℕ) (q : Report) (r : RequestReport) → as_own subtype q ≡ r
    → r.failure ≡ None
    → q ≡ success_of r
as-own-success subtype q r same none =
    let coded : q.code ≡ None =
    no-code subtype q.code (ap (λ (z : RequestReport). z.failure) same ∙ none) in
    ap (with-code q.request) coded
    ∙ ap (λ (z : RequestReport). success_of z) same

not-read : (b : Bool) (subtype : ℕ) (body : List ℕ) (r : RequestReport)
    → r.failure ≡ None
    → (if b then Some (failure_of subtype (long_at body 0) body) else None) ≡ Some r
    → ⊥
not-read true subtype body r none is =
    let same : failure_of subtype (long_at body 0) body ≡ r = cc in
    let said : Some (notice_in subtype body) ≡ None =
    ap (λ (z : RequestReport). z.failure) same ∙ none in
    cc
not-read false subtype body r none is = cc

success-by : (subtype : ℕ) (body : List ℕ) (r : RequestReport) (m : Option Report)
    → report_in subtype body ≡ m
    → any_report_in subtype body ≡ Some r
    → r.failure ≡ None
    → m ≡ Some (success_of r)
unfolding any_report_in
success-by subtype body r None read any none =
    let nothing : (if fails subtype && nat_le 4 (length body)
    then Some (failure_of subtype (long_at body 0) body) else None) ≡ Some r =
    ap (λ (o : Option Report). if fails subtype && nat_le 4 (length body)
    then Some (failure_of subtype (long_at body 0) body) else option_map as_success o) (sym read)
    ∙ any in
    absurd (not-read (fails subtype && nat_le 4 (length body)) subtype body r none nothing)
success-by subtype body r (Some q) read any none =
    let same : as_own subtype q ≡ r =
    (let two : Some (as_own subtype q) ≡ Some r = sym (own-read subtype body q read) ∙ any in cc) in
    ap (λ (z : Report). Some z) (as-own-success subtype q r same none)

-- one that reports no failure is of this project's form
pub success-read : (subtype : ℕ) (body : List ℕ) (r : RequestReport)
    → any_report_in subtype body ≡ Some r
    → r.failure ≡ None
    → report_in subtype body ≡ Some (success_of r)
success-read subtype body r any none =
    success-by subtype body r (report_in subtype body) refl any none

-- ---- reports of failure

value_of : (n : ℕ) (rest : List ℕ) → n < 2 ^ 32 → long_at (be n 4 ++ rest) 0 ≡ n
value_of n rest fits = omega arith

long-enough : (n : ℕ) (rest : List ℕ) → 4 ≤ length (be n 4 ++ rest)
long-enough n rest = omega arith

-- whatever stands behind the request ID
pub failure-read : (subtype id : ℕ) (rest : List ℕ)
    → IsTrue (fails subtype)
    → id < 2 ^ 32
    → any_report_in subtype (be id 4 ++ rest) ≡ Some (failure_of subtype id (be id 4 ++ rest))
failure-read subtype id rest failure fits =
    any-failure subtype (be id 4 ++ rest)
    (both (fails subtype) (nat_le 4 (length (be id 4 ++ rest))) failure
    (le_true 4 (length (be id 4 ++ rest)) (long-enough id rest)))
    ∙ ap (λ (n : ℕ). Some (failure_of subtype n (be id 4 ++ rest))) (value_of id rest fits)
