-- The slice is as long as what is expected.
use Rattle.std.proofs.Common.{◌≡◌, ◌∙◌, ap, ℕ, ◌+◌, ◌-◌, List, length, take, drop, arith}
use Rattle.lpt_packet.specs.Numbers.{same_octets}
use Rattle.lpt_state.proofs.NumberLemmas.{pointwise_same}
use Rattle.lpt_state.proofs.numbers.stands_at.Goals as goal

pub returns : goal.returns
returns c =
    let at : ℕ = c.args.at in
    let octets : List ℕ = c.args.octets.now in
    let expected : List ℕ = c.args.expected.now in
    let same : at + length expected - at ≡ length expected = omega arith in
    c.eq.ensures
    ∙ pointwise_same (take (at + length expected - at) (drop at octets)) expected
    ∙ ap (λ (n : ℕ). same_octets (take n (drop at octets)) expected) same
