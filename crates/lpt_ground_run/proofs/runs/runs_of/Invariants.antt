-- What became of those so far is in runs.
use Rattle.std.proofs.Common.{◌≡◌, ◌++◌, drop, map}
use Rattle.lpt_ground_run.specs.Runs.{became, spread}
use Rattle.lpt_ground_run.proofs.runs.runs_of.Given as goal

abbrev pub invariant-loop-one : goal.invariant-loop-one
invariant-loop-one l =
    spread l.runs.items ++ map became (drop l.one-index l.asked) ≡ map became l.asked
