-- Bit after bit, from the highest on.
use Rattle.std.proofs.Common.{◌≡◌, ◌∙◌, ap, sym, ℕ, ◌+◌, ◌-◌, ◌/◌, ◌^◌, arith}
use Rattle.std.proofs.lemmas.Bool.Decides.{nat_tests}
use Rattle.std.proofs.lemmas.Nat.{shr-shr}
use Rattle.lpt_stream.specs.Registers.{zeros_in}
use Rattle.lpt_stream.proofs.SumLemmas.{zeros-zero}
use Rattle.lpt_stream.proofs.register.behind_zeros.Goals as goal

pub loop-place-init : goal.loop-place-init
loop-place-init c =
    let none : c.args.register / 2 ^ 16 ≡ 0 = omega (arith, c.ranges.register.fits) in
    record {
      within = omega arith;
      summed = λ n of_one. sym (ap (λ x. zeros_in x n) none ∙ zeros-zero n);
    }

pub loop-place-preserved : goal.loop-place-preserved
loop-place-preserved c =
    let p = c.loop-place.place in
    let some : p - 1 + 1 ≡ p = grind (arith, nat_tests, c.loop-place-test.true) in
    let halves : c.args.register / 2 ^ p ≡ c.args.register / 2 ^ (p - 1) / 2 =
    sym (shr-shr c.args.register (p - 1) 1 ∙ ap (λ (k : ℕ). c.args.register / 2 ^ k) some) in
    record {
      within = (let w = c.loop-place.invariant.within in omega (arith, w));
      summed = λ n of_one. c.with_bit-sum.ensures n of_one
          (c.loop-place.invariant.summed n of_one ∙ ap (λ x. zeros_in x n) halves);
    }

pub returns : goal.returns
returns c = λ n of_one.
    let none : c.loop-place.place ≡ 0 = grind (arith, nat_tests, c.loop-place-test.false) in
    let all : c.args.register / 2 ^ 0 ≡ c.args.register = omega arith in
    c.loop-place.invariant.summed n of_one
    ∙ ap (λ (k : ℕ). zeros_in (c.args.register / 2 ^ k) n) none
    ∙ ap (λ x. zeros_in x n) all
