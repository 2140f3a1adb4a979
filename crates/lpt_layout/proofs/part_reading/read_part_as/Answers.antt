-- The verdict's part is a part.
use Rattle.std.proofs.Common.{arith}
use Rattle.lpt_layout.proofs.PartLemmas.{part_gives}
use Rattle.lpt_layout.proofs.part_reading.read_part_as.Goals as goal

pub returns-clause-found : goal.returns-clause-found
returns-clause-found c =
    part_gives c.args.layout.now c.args.kind c.args.body.now c.args.p c.first_fault_or_part.result
    (λ i. omega (arith, c.type_inv.body i))
    c.first_fault_or_part.ensures
