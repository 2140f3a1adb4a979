-- The numbers of the failure codes.
use Rattle.std.specs.Prelude.{ℕ}
use Rattle.lpt_pus.specs.declared.failure_code.FailureCode.{FailureCode}
use Rattle.lpt_pus.specs.declared.failure_code.FailureCode.TheVariants.{UnknownRequest, MalformedBody, UnknownMemory, OutOfRange, WrongChecksum, ReplyTooLong, NoFreeIdentifier, TooManyOpen}

-- the failure code's number
abbrev pub number_of : FailureCode → ℕ
number_of UnknownRequest = 1
number_of MalformedBody = 2
number_of UnknownMemory = 3
number_of OutOfRange = 4
number_of WrongChecksum = 5
number_of ReplyTooLong = 6
number_of NoFreeIdentifier = 7
number_of TooManyOpen = 8
