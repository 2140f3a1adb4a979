-- What stands first was read for memories of the end's sizes.
use Rattle.std.proofs.Common.{ap}
use Rattle.lpt_jobs.specs.Jobs.{head_of}
use Rattle.lpt_node.proofs.GivenLemmas.{given_over}
use Rattle.lpt_c_end.specs.Kept.{sizes_in}
use Rattle.lpt_c_end.proofs.ReadyLemmas.{front_ready}
use Rattle.lpt_c_end.proofs.laws.given_is_over.Goals as goal

pub returns : goal.returns
returns c = λ e octets ms some held.
    given_over e.config e.node.at ms octets (head_of e.node.at.jobs.jobs) e.node.config.apid
    (front_ready e.node (sizes_in e.memories) ms (ap sizes_in some) e.ready) held
