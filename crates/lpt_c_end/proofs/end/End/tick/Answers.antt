-- What was read of the jobs is still for the memories.
use Rattle.lpt_c_end.specs.Kept.{sizes_in}
use Rattle.lpt_c_end.proofs.ReadyLemmas.{ready_ticked}
use Rattle.lpt_c_end.proofs.end.End.tick.Goals as goal

pub invariant_of-self-clause-ready : goal.invariant_of-self-clause-ready
invariant_of-self-clause-ready c =
    let e = c.args.self.now in
    ready_ticked c.tick.result e.node c.tick.new.self (sizes_in e.memories) c.tick.ensures.config
    c.tick.ensures.ok c.tick.ensures.err e.ready
