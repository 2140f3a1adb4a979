-- What is executed by the octets that memories have there is what is executed over them.
use Rattle.std.proofs.Common.{◌≡◌, ◌∙◌, rules}
use Rattle.lpt_jobs.specs.Jobs.{head_of}
use Rattle.lpt_node.specs.Jobs.{executed_given, execution}
use Rattle.lpt_node.proofs.GivenLemmas.{given_over}
use Rattle.lpt_node.proofs.node.Node.apply_given.Goals as goal

pub returns-clause-over : goal.returns-clause-over
returns-clause-over c ms read held =
    let node = c.args.self.now in
    let given : (c.end_front.new.self.at, execution c.in-Ok-end_front.executed)
    ≡ executed_given node.config node.at c.args.octets.now = search rules in
    given
    ∙ given_over node.config node.at ms c.args.octets.now (head_of node.at.jobs.jobs) node.config.apid
    read held
