use Rattle.std.proofs.Common.{w64, ap, sym, ◌∙◌}
use Rattle.std.proofs.lemmas.Nat.Bits.{bit_at_set_same, bit_at_set_other, bit_at_clear_same, bit_at_clear_other}
use Rattle.lpt_ledger.specs.Bits.{bit_for}
use Rattle.lpt_ledger.proofs.bits.with_bit.Goals as goal

-- ---- it is set

pub returns-then-on-clause-bit : goal.returns-then-on-clause-bit
returns-then-on-clause-bit c =
    bit_at_set_same w64 c.args.word c.args.bit c.requires ∙ ap bit_for (sym c.if-on.true)

pub returns-then-on-clause-others : goal.returns-then-on-clause-others
returns-then-on-clause-others c = λ i within.
    bit_at_set_other w64 c.args.word c.args.bit c.requires i

-- ---- it is cleared

pub returns-else-on-clause-bit : goal.returns-else-on-clause-bit
returns-else-on-clause-bit c =
    bit_at_clear_same w64 c.args.word c.args.bit c.requires ∙ ap bit_for (sym c.if-on.false)

pub returns-else-on-clause-others : goal.returns-else-on-clause-others
returns-else-on-clause-others c = bit_at_clear_other w64 c.args.word c.args.bit c.requires
