-- What a part says of its transaction.
use Rattle.std.specs.Prelude.{ℕ}

-- the transaction identifier that stands in a part and in an abortion report
abbrev pub TransactionId : Type 0
TransactionId = ℕ
