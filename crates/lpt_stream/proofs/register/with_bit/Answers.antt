-- What zeros make of the register is what they make of the rest of it, and of its lowest bit.
use Rattle.std.proofs.Common.{◌∙◌, ap, arith}
use Rattle.std.proofs.lemmas.Bool.Decides.{nat_tests}
use Rattle.std.specs.Int.Bits.{bit_xor}
use Rattle.lpt_stream.proofs.SumLemmas.{zeros-even, zeros-odd}
use Rattle.lpt_stream.proofs.register.with_bit.Goals as goal

pub returns-then-register-eq1 : goal.returns-then-register-eq1
returns-then-register-eq1 c = λ n of_one of_rest.
    ap (λ x. bit_xor x c.args.of_one) c.shift_in-moved.ensures
    ∙ zeros-odd c.args.register n c.args.sum c.args.of_one c.ranges.register.fits
    (grind (arith, nat_tests, c.if-register-eq1.true)) of_one of_rest

pub returns-else-register-eq1 : goal.returns-else-register-eq1
returns-else-register-eq1 c = λ n of_one of_rest.
    c.shift_in-moved.ensures
    ∙ zeros-even c.args.register n c.args.sum c.ranges.register.fits
    (grind (arith, nat_tests, c.if-register-eq1.false)) of_rest
