-- The kit's number of a day, less that of 1 January 1900.
use Rattle.std.proofs.Common.{arith}
use Rattle.jiff_core.proofs.SignedLemmas.{signed_casts}
use Rattle.lpt_carried.proofs.DateLemmas.{number_is}
use Rattle.lpt_carried.proofs.days.day_number.Goals as goal

pub overflow_sub-result : goal.overflow_sub-result
overflow_sub-result c =
    let value = c.in-Ok.ensures.value in
    (number_is c.in-Ok.date c.args.year c.args.month c.args.day c.days_since_min.result
    (omega (arith, signed_casts, value.0)) (omega (arith, signed_casts, value.1))
    (omega (arith, signed_casts, value.2)) c.if-year-lt1900.false (omega arith)
    c.days_since_min.ensures.value).0

pub returns-in-Ok : goal.returns-in-Ok
returns-in-Ok c =
    let value = c.in-Ok.ensures.value in
    (number_is c.in-Ok.date c.args.year c.args.month c.args.day c.days_since_min.result
    (omega (arith, signed_casts, value.0)) (omega (arith, signed_casts, value.1))
    (omega (arith, signed_casts, value.2)) c.if-year-lt1900.false (omega arith)
    c.days_since_min.ensures.value).1
