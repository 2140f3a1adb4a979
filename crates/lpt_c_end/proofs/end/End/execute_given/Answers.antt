-- What was read of the jobs is still for the memories.
use Rattle.lpt_c_end.specs.Kept.{sizes_in}
use Rattle.lpt_c_end.proofs.ReadyLemmas.{ready_given, ready_same}
use Rattle.lpt_c_end.proofs.end.End.execute_given.Goals as goal

-- the oldest was executed
pub invariant_of-self-clause-ready : goal.invariant_of-self-clause-ready
invariant_of-self-clause-ready c =
    let e = c.args.self.now in
    ready_given e.node c.apply_given.new.self (sizes_in e.memories) c.args.octets.now _
    c.apply_given.ensures.config c.in-Ok.ensures.ok e.ready

-- memory ran out
pub invariant_of-self-in-Err-clause-ready : goal.invariant_of-self-in-Err-clause-ready
invariant_of-self-in-Err-clause-ready c =
    let e = c.args.self.now in
    ready_same e.node c.apply_given.new.self (sizes_in e.memories)
    c.apply_given.ensures.config c.in-Err.ensures.err e.ready
