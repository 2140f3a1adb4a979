-- The verdict's report is a report, and each report is the verdict's.
use Rattle.std.proofs.Common.{◌∙◌, arith}
use Rattle.lpt_part.proofs.AbortLemmas.{abort_is_found, IsAbort-read}
use Rattle.lpt_part.proofs.abort.read_abort.Goals as goal

pub returns-clause-found : goal.returns-clause-found
returns-clause-found c =
    abort_is_found c.args.body.now c.fault_or_abort.result
    (λ i. omega (arith, c.type_inv.body i))
    c.fault_or_abort.ensures

pub returns-clause-abort : goal.returns-clause-abort
returns-clause-abort c id reason h =
    c.fault_or_abort.ensures ∙ IsAbort-read c.args.body.now id reason h
