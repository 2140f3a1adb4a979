-- Each side is computed.
use Rattle.std.proofs.Common.{refl}
use Rattle.lpt_ledger.specs.Runs.{names_in, runs_from, runs_of_names, some_names}
use Rattle.lpt_apart_examples.proofs.laws.worked_names.Goals as goal

pub returns-clause-runs : goal.returns-clause-runs
unfolding runs_of_names runs_from
returns-clause-runs c = refl

pub returns-clause-names : goal.returns-clause-names
unfolding names_in some_names
returns-clause-names c = refl
