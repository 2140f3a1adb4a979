-- A line that wants memory was judged to be a load.
use Rattle.std.proofs.Common.{IsSome, rules}
use Rattle.lpt_script_words.specs.Grammar.{load_of}
use Rattle.lpt_script_words.specs.Words.{words}
use Rattle.lpt_script_words.proofs.Asking.{on_err}
use Rattle.lpt_script_words.proofs.load.read_load.Goals as goal

pub returns-in_err-areas-clause-asked : goal.returns-in_err-areas-clause-asked
returns-in_err-areas-clause-asked c =
    let asked : IsSome (load_of c.args.source (words c.args.rest.now)) = search rules in
    on_err c.from_residual.result (IsSome (load_of c.args.source (words c.args.rest.now))) asked
