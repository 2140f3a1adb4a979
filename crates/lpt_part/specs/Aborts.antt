-- The bodies of abortion reports.
use Rattle.std.specs.Prelude.{◌≡◌, ℕ, ◌<◌, ◌==◌, if◌then◌else◌, List, [], ◌∷◌, ◌++◌, length, slice_index, Option, Result, Ok, Err}
use Rattle.std.specs.Result.{result_ok}
use Rattle.lpt_part.specs.Identifiers.{TransactionId}
use Rattle.lpt_packet.specs.Numbers.{be, word_at}
use Rattle.lpt_part.specs.declared.fault.PartFault.{PartFault}
use Rattle.lpt_part.specs.declared.fault.PartFault.TheVariants.{AbortBody}
use Rattle.lpt_part.specs.declared.reason.Reason.{Reason}
use Rattle.lpt_part.specs.declared.reason.Reason.TheVariants.{Expired, Discontinuity, Conflict}

-- the failure reason's number
abbrev pub reason_code : Reason → ℕ
reason_code Expired = 1
reason_code Discontinuity = 2
reason_code Conflict = 3

-- transaction identifier 16 bits, failure reason 8 bits
unfoldable pub abort_body : TransactionId → Reason → List ℕ
abort_body id reason = be id 2 ++ reason_code reason ∷ []

-- the body is the abortion report of this transaction, for this reason
pub record IsAbort (body : List ℕ) (id : TransactionId) (reason : Reason) : Type 0 where
  pub id_fits : id < 65536
  pub spelled : body ≡ abort_body id reason

-- what an abortion report's body says, or the fault of a body that is none
unfoldable pub abort_verdict : List ℕ → Result (TransactionId × Reason) PartFault
abort_verdict body =
    if length body == 3 then
    (if slice_index body 2 == 1 then Ok (word_at body 0, Expired)
    else if slice_index body 2 == 2 then Ok (word_at body 0, Discontinuity)
    else if slice_index body 2 == 3 then Ok (word_at body 0, Conflict)
    else Err AbortBody)
    else Err AbortBody

-- what an abortion report's body says, if it is one
abbrev pub abort_in : List ℕ → Option (TransactionId × Reason)
abort_in body = result_ok (abort_verdict body)
