-- What was read of the jobs is still for the memories.
use Rattle.lpt_c_end.specs.Kept.{sizes_in}
use Rattle.lpt_c_end.proofs.ReadyLemmas.{ready_closed}
use Rattle.lpt_c_end.proofs.end.End.finish.Goals as goal

pub invariant_of-self-clause-ready : goal.invariant_of-self-clause-ready
invariant_of-self-clause-ready c =
    let e = c.args.self.now in
    ready_closed c.finish.result e.node c.finish.new.self (sizes_in e.memories) _
    c.finish.ensures.config
    c.finish.ensures.ok c.finish.ensures.err e.ready
