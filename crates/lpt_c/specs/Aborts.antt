-- Abortion reports, as they are read and written.
use Rattle.std.specs.Prelude.{ℕ, ◌==◌, if◌then◌else◌, List, Option, Some, None, Result, Ok, Err}
use Rattle.lpt_part.specs.Identifiers.{TransactionId}
use Rattle.lpt_part.specs.Aborts.{reason_code, abort_body, abort_verdict}
use Rattle.lpt_part.specs.declared.fault.PartFault.{PartFault}
use Rattle.lpt_part.specs.FaultNames.{code_of}
use Rattle.lpt_part.specs.declared.reason.Reason.{Reason}
use Rattle.lpt_part.specs.declared.reason.Reason.TheVariants.{Expired, Discontinuity, Conflict}
use Rattle.lpt_c.specs.declared.aborts.LptAbort.{LptAbort}
use Rattle.lpt_c.specs.Buffers.{BufferText}
use Rattle.lpt_c.specs.Codes.{range}

-- what an abortion report says: of which transaction, and why
abbrev pub Abort : Type 0
Abort = TransactionId × Reason

-- the reason of a number
abbrev pub reason_named : ℕ → Option Reason
reason_named n =
    if n == 1 then Some Expired
    else if n == 2 then Some Discontinuity
    else if n == 3 then Some Conflict
    else None

-- the abortion report that a body is, or the number of its fault
abbrev pub abort_numbered : Result Abort PartFault → Result Abort ℕ
abort_numbered (Ok a) = Ok a
abort_numbered (Err e) = Err (code_of e)

abbrev pub abort_read : List ℕ → Result Abort ℕ
abort_read body = abort_numbered (abort_verdict body)

-- an abortion report as it is reported
abbrev pub abort_told : Abort → LptAbort
abort_told a = record { id = a.0; reason = reason_code a.1 }

-- the body that is to be written
abbrev pub abort_text : ℕ → Option Reason → BufferText
abort_text id None = Err range
abort_text id (Some reason) = Ok (abort_body id reason)
