-- What was read of the jobs is still for the memories.
use Rattle.lpt_c_end.specs.Kept.{sizes_in}
use Rattle.lpt_c_end.proofs.ReadyLemmas.{ready_dropped}
use Rattle.lpt_c_end.proofs.end.End.drop_read.Goals as goal

pub invariant_of-self-clause-ready : goal.invariant_of-self-clause-ready
invariant_of-self-clause-ready c =
    let e = c.args.self.now in
    ready_dropped c.drop_front.result e.node c.drop_front.new.self (sizes_in e.memories)
    c.drop_front.ensures.config c.drop_front.ensures.ok c.drop_front.ensures.err e.ready
