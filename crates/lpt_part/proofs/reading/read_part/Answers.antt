-- The verdict's part is a part, and each part is the verdict's.
use Rattle.std.proofs.Common.{arith}
use Rattle.lpt_part.proofs.BodyLemmas.{Gives-found, Gives-read}
use Rattle.lpt_part.proofs.reading.read_part.Goals as goal

pub returns-clause-found : goal.returns-clause-found
returns-clause-found c =
    Gives-found c.args.kind c.args.body.now c.args.p c.first_fault_or_part.result
    (λ i. omega (arith, c.type_inv.body i))
    c.first_fault_or_part.ensures

pub returns-clause-part : goal.returns-clause-part
returns-clause-part c =
    Gives-read c.args.kind c.args.body.now c.args.p c.first_fault_or_part.result
    c.first_fault_or_part.ensures
