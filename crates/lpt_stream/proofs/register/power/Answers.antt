-- Bit after bit, from the highest on.
use Rattle.std.proofs.Common.{◌≡◌, ◌∙◌, ap, sym, ℕ, ◌+◌, ◌-◌, ◌/◌, ◌^◌, arith}
use Rattle.std.proofs.lemmas.Bool.Decides.{nat_tests}
use Rattle.std.proofs.lemmas.Nat.{shr-shr}
use Rattle.lpt_stream.specs.Registers.{zeros_in}
use Rattle.lpt_stream.proofs.register.power.Goals as goal

pub loop-place-init : goal.loop-place-init
loop-place-init c =
    let none : c.args.count / 2 ^ 17 ≡ 0 = omega (arith, c.requires) in
    record {
      within = omega arith;
      so_far = sym (ap (zeros_in 1) none);
    }

pub loop-place-preserved : goal.loop-place-preserved
loop-place-preserved c =
    let p = c.loop-place.place in
    let some : p - 1 + 1 ≡ p = grind (arith, nat_tests, c.loop-place-test.true) in
    let halves : c.args.count / 2 ^ p ≡ c.args.count / 2 ^ (p - 1) / 2 =
    sym (shr-shr c.args.count (p - 1) 1 ∙ ap (λ (k : ℕ). c.args.count / 2 ^ k) some) in
    record {
      within = (let w = c.loop-place.invariant.within in omega (arith, w));
      so_far = c.power_with_bit-power.ensures
          (c.loop-place.invariant.so_far ∙ ap (zeros_in 1) halves);
    }

pub returns : goal.returns
returns c =
    let none : c.loop-place.place ≡ 0 = grind (arith, nat_tests, c.loop-place-test.false) in
    let all : c.args.count / 2 ^ 0 ≡ c.args.count = omega arith in
    c.loop-place.invariant.so_far
    ∙ ap (λ (k : ℕ). zeros_in 1 (c.args.count / 2 ^ k)) none
    ∙ ap (zeros_in 1) all
