-- The node is the one that the word names.
use Rattle.std.proofs.Common.{◌≡◌, sym, Some, arith}
use Rattle.std.proofs.lemmas.Grind.{common_steps}
use Rattle.lpt_events.specs.declared.event.Event.TheVariants as event
use Rattle.lpt_script_words.specs.declared.grammar.Command.TheVariants as command
use Rattle.lpt_script_words.specs.Grammar.{restart_of}
use Rattle.lpt_script_words.specs.Words.{words}
use Rattle.lpt_script_words.proofs.nodes.read_restart.Goals as goal

pub returns : goal.returns
returns c =
    let is : restart_of (words c.args.rest.now) ≡ Some (command.Event (event.Restart c.in_ok-node.node)) =
    grind (arith, common_steps) in
    sym is
