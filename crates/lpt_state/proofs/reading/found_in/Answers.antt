-- The runs lie before the checksum.
use Rattle.std.proofs.Common.{◌≡◌, ◌∙◌, ap, ℕ, ◌-◌, ◌*◌, List, length, take, drop, arith}
use Rattle.lpt_state.specs.Spellings.{around}
use Rattle.lpt_state.specs.Verdicts.{runs_in}
use Rattle.lpt_state.proofs.reading.found_in.Goals as goal

pub returns-clause-found : goal.returns-clause-found
returns-clause-found c =
    let b : List ℕ = c.args.octets.now in
    let size : length b - 2 - 43 ≡ length b - around = omega arith in
    let front = c.split_at.ensures.front
    ∙ (λ j. take (6 * c.great.ensures j) (take (size j) (drop 43 b))) in
    let back = c.split_at.ensures.back
    ∙ (λ j. drop (6 * c.great.ensures j) (take (size j) (drop 43 b))) in
    λ i. record {
      boot = c.great-2.ensures i;
      clock = c.long.ensures i;
      sent = runs_in (front i);
      received = runs_in (back i);
    }
