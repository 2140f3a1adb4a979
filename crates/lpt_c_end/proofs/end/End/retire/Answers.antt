-- What was read of the jobs is still for the memories.
use Rattle.lpt_c_end.specs.Kept.{sizes_in}
use Rattle.lpt_c_end.proofs.ReadyLemmas.{ready_retired}
use Rattle.lpt_c_end.proofs.end.End.retire.Goals as goal

pub invariant_of-self-clause-ready : goal.invariant_of-self-clause-ready
invariant_of-self-clause-ready c =
    let e = c.args.self.now in
    ready_retired e.node c.retire.new.self (sizes_in e.memories) _ _ _ c.retire.ensures.config
    c.retire.ensures.at
    e.ready
