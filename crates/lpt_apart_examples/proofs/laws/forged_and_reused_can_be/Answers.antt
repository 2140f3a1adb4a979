use Rattle.lpt_apart_examples.proofs.RunRows.{passes, runs}
use Rattle.lpt_apart_examples.proofs.laws.forged_and_reused_can_be.Goals as goal

pub returns : goal.returns
returns f = record {
  configured = passes.configured;
  can = runs.can;
  log = runs.log;
  left = runs.left;
  whole = runs.whole;
}
