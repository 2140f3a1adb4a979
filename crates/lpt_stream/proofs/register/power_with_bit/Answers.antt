-- As many zeros again, and one more where the number is odd.
use Rattle.std.proofs.Common.{◌≡◌, ◌∙◌, ap, sym, ◌+◌, ◌/◌, suc, arith}
use Rattle.std.proofs.lemmas.Bool.Decides.{nat_tests}
use Rattle.lpt_packet.specs.Checksums.{bits, shift_all}
use Rattle.lpt_stream.specs.Registers.{zeros_in}
use Rattle.lpt_stream.proofs.SumLemmas.{zeros-last, zeros-twice}
use Rattle.lpt_stream.proofs.register.power_with_bit.Goals as goal

pub returns-then-count-eq1 : goal.returns-then-count-eq1
returns-then-count-eq1 c = λ h.
    let n = c.args.count / 2 in
    let odd : suc (n + n) ≡ c.args.count = grind (arith, nat_tests, c.if-count-eq1.true) in
    c.octet_in.ensures
    ∙ ap (λ r. shift_all r (bits 0))
    (c.behind_zeros-doubled.ensures n h ∙ zeros-twice n c.args.half h)
    ∙ sym (zeros-last (n + n) 1)
    ∙ ap (zeros_in 1) odd

pub returns-else-count-eq1 : goal.returns-else-count-eq1
returns-else-count-eq1 c = λ h.
    let n = c.args.count / 2 in
    let even : n + n ≡ c.args.count = grind (arith, nat_tests, c.if-count-eq1.false) in
    c.behind_zeros-doubled.ensures n h ∙ zeros-twice n c.args.half h ∙ ap (zeros_in 1) even
