use Rattle.std.proofs.Common.{ap}
use Rattle.lpt_apart.specs.Freeing.{Talk}
use Rattle.lpt_apart_examples.proofs.Repeating.{frees_too_early, late_lines_change_nothing}
use Rattle.lpt_apart_examples.proofs.laws.late_lines_change_nothing.Goals as goal

pub returns : goal.returns
returns f = record {
  can = late_lines_change_nothing.can;
  moves = ap (λ (t : Talk). t.moves) late_lines_change_nothing.are;
  turns = frees_too_early;
}
