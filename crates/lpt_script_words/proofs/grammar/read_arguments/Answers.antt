use Rattle.std.proofs.Common.{option_map, Option, Some, None, IsSome, refl}
use Rattle.lpt_script_words.specs.declared.grammar.Command.TheVariants as command
use Rattle.lpt_script_words.specs.Grammar.{arguments_of, load_of}
use Rattle.lpt_script_words.specs.Words.{words}
use Rattle.lpt_script_words.proofs.Asking.{on_err}
use Rattle.lpt_script_words.proofs.grammar.read_arguments.Goals as goal

mapped : {A B : Type 0} (f : A → B) (o : Option A) → IsSome o → IsSome (option_map f o)
mapped f (Some x) h = refl
mapped f None h = absurd cc

-- the load is one
pub returns-in_err-read_load-in-Load-clause-asked :
    goal.returns-in_err-read_load-in-Load-clause-asked
returns-in_err-read_load-in-Load-clause-asked c =
    let ws = words c.args.rest.now in
    let load : IsSome (load_of c.args.source ws) = c.in_err-read_load-in-Load.ensures.asked in
    let asked : IsSome (arguments_of c.args.source c.args.keyword ws) =
    rw c.in-Load.is (mapped command.Load (load_of c.args.source ws) load) in
    on_err c.from_residual.result (IsSome (arguments_of c.args.source c.args.keyword ws)) asked
