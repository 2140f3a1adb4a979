-- A body is the report that its verdict says, and each report's body is read as this report.
use Rattle.std.proofs.Common.{◌≡◌, ◌∙◌, ap, sym, refl, ℕ, ◌+◌, ◌*◌, ◌<◌, ◌==◌, Bool, true, false, List, [], ◌∷◌, ◌++◌, length, Result, Ok, Err, if◌then◌else◌, get_or, eqb-true, arith}
use Rattle.std.specs.Prelude.{IfOk, Some, slice_index, ◌↔◌}
use Rattle.std.specs.Result.{result_ok}
use Rattle.lpt_part.proofs.ResultLemmas.{result_ok-some}
use Rattle.lpt_part.specs.Identifiers.{TransactionId}
use Rattle.lpt_packet.specs.Numbers.{be, word_at, IsOctets}
use Rattle.lpt_part.specs.declared.fault.PartFault.{PartFault}
use Rattle.lpt_part.specs.declared.fault.PartFault.TheVariants.{AbortBody}
use Rattle.lpt_part.specs.declared.reason.Reason.{Reason}
use Rattle.lpt_part.specs.declared.reason.Reason.TheVariants.{Expired, Discontinuity, Conflict}
use Rattle.lpt_part.specs.Aborts.{reason_code, abort_body, IsAbort, abort_verdict, abort_in}
use Rattle.lpt_packet.proofs.Codec.{word_cells, word_of_be}

-- ---- what was written

-- a report's body has three octets
pub length-abort_body : (id : ℕ) (reason : Reason) → length (abort_body id reason) ≡ 3
unfolding abort_body
length-abort_body id reason = refl

-- a report's body is read as this report
pub abort_verdict-abort_body : (id : ℕ) (reason : Reason)
    → id < 65536
    → abort_verdict (abort_body id reason) ≡ Ok (id, reason)
unfolding abort_verdict abort_body
abort_verdict-abort_body id Expired h =
    ap (λ n. Ok (n, Expired)) (word_of_be id (1 ∷ []) h)
abort_verdict-abort_body id Discontinuity h =
    ap (λ n. Ok (n, Discontinuity)) (word_of_be id (2 ∷ []) h)
abort_verdict-abort_body id Conflict h =
    ap (λ n. Ok (n, Conflict)) (word_of_be id (3 ∷ []) h)

-- each report is read
pub IsAbort-read : (b : List ℕ) (id : ℕ) (reason : Reason)
    → IsAbort b id reason
    → abort_verdict b ≡ Ok (id, reason)
IsAbort-read b id reason h =
    ap abort_verdict h.spelled ∙ abort_verdict-abort_body id reason h.id_fits

-- ---- what is read

-- the verdict over the answers of its tests
abbrev chain : Bool → Bool → Bool → Bool → ℕ → Result (TransactionId × Reason) PartFault
chain long one two three id =
    if long then
    (if one then Ok (id, Expired)
    else if two then Ok (id, Discontinuity)
    else if three then Ok (id, Conflict)
    else Err AbortBody)
    else Err AbortBody

-- the length was right, the reason was this code's, and the identifier was read
record Passed (len code n id : ℕ) (reason : Reason) : Type 0 where
  len_is : len ≡ 3
  code_is : code ≡ reason_code reason
  id_is : n ≡ id

passed : (len code n id : ℕ) (said reason : Reason)
    → len ≡ 3
    → code ≡ reason_code said
    → ◌≡◌ {A = Result (TransactionId × Reason) PartFault} (Ok (n, said)) (Ok (id, reason))
    → Passed len code n id reason
passed len code n id said reason l e h =
    let pair : ◌≡◌ {A = TransactionId × Reason} (n, said) (id, reason) = cc in
    record {
      len_is = l;
      code_is = e ∙ ap (λ (x : TransactionId × Reason). reason_code x.1) pair;
      id_is = ap (λ (x : TransactionId × Reason). x.0) pair;
    }

chain_passed : (long one two three : Bool) (len code n id : ℕ) (reason : Reason)
    → (long ≡ true → len ≡ 3)
    → (one ≡ true → code ≡ 1)
    → (two ≡ true → code ≡ 2)
    → (three ≡ true → code ≡ 3)
    → chain long one two three n ≡ Ok (id, reason)
    → Passed len code n id reason
chain_passed false one two three len code n id reason hl h1 h2 h3 h = absurd cc
chain_passed true true two three len code n id reason hl h1 h2 h3 h =
    passed len code n id Expired reason (hl refl) (h1 refl) h
chain_passed true false true three len code n id reason hl h1 h2 h3 h =
    passed len code n id Discontinuity reason (hl refl) (h2 refl) h
chain_passed true false false true len code n id reason hl h1 h2 h3 h =
    passed len code n id Conflict reason (hl refl) (h3 refl) h
chain_passed true false false false len code n id reason hl h1 h2 h3 h = absurd cc

verdict_passed : (b : List ℕ) (id : ℕ) (reason : Reason)
    → abort_verdict b ≡ Ok (id, reason)
    → Passed (length b) (slice_index b 2) (word_at b 0) id reason
unfolding abort_verdict
verdict_passed b id reason h =
    let code : ℕ = slice_index b 2 in
    chain_passed (length b == 3) (code == 1) (code == 2) (code == 3)
    (length b) code (word_at b 0) id reason
    (eqb-true _ _) (eqb-true _ _) (eqb-true _ _) (eqb-true _ _) h

-- three octets are a report's body
cells_spelled : (b : List ℕ) (reason : Reason)
    → IsOctets b
    → length b ≡ 3
    → slice_index b 2 ≡ reason_code reason
    → b ≡ abort_body (word_at b 0) reason
unfolding abort_body
cells_spelled [] reason o l e = absurd (omega arith)
cells_spelled (x ∷ []) reason o l e = absurd (omega arith)
cells_spelled (x ∷ y ∷ []) reason o l e = absurd (omega arith)
cells_spelled (x ∷ y ∷ z ∷ []) reason o l e =
    let id : be (256 * x + y) 2 ≡ x ∷ y ∷ [] = word_cells x y (o 0) (o 1) in
    sym (ap (λ c. c ++ reason_code reason ∷ []) id ∙ ap (λ n. x ∷ y ∷ n ∷ []) (sym e))
cells_spelled (x ∷ y ∷ z ∷ w ∷ rest) reason o l e = absurd (omega arith)

-- what is read is a report
pub abort_verdict-found : (b : List ℕ) (id : ℕ) (reason : Reason)
    → IsOctets b
    → abort_verdict b ≡ Ok (id, reason)
    → IsAbort b id reason
abort_verdict-found b id reason o h =
    let p : Passed (length b) (slice_index b 2) (word_at b 0) id reason =
    verdict_passed b id reason h in
    let first : get_or b 0 0 < 256 = o 0 in
    let second : get_or b 1 0 < 256 = o 1 in
    record {
      id_fits = omega arith;
      spelled =
          cells_spelled b reason o p.len_is p.code_is ∙ ap (λ n. abort_body n reason) p.id_is;
    }

-- a list of octets reads as a report exactly where it is one
pub abort_in-IsAbort : (b : List ℕ) (id : ℕ) (reason : Reason)
    → IsOctets b
    → (abort_in b ≡ Some (id, reason)) ↔ IsAbort b id reason
abort_in-IsAbort b id reason o = (
  (λ h. abort_verdict-found b id reason o (result_ok-some (abort_verdict b) (id, reason) h)),
  (λ h. ap result_ok (IsAbort-read b id reason h)),
)

-- ---- the reader's answer

-- what a reader that gives the verdict answers is a report
pub abort_is_found : (b : List ℕ) (r : Result (TransactionId × Reason) PartFault)
    → IsOctets b
    → r ≡ abort_verdict b
    → IfOk r (λ x. IsAbort b x.0 x.1)
abort_is_found b (Ok x) o h = abort_verdict-found b x.0 x.1 o (sym h)
abort_is_found b (Err e) o h = tt
