-- What was read of the jobs is still for the memories.
use Rattle.lpt_c_end.specs.Kept.{sizes_in}
use Rattle.lpt_c_end.proofs.ReadyLemmas.{ready_refused, ready_same}
use Rattle.lpt_c_end.proofs.end.End.refuse_as.Goals as goal

-- the oldest was refused
pub invariant_of-self-clause-ready : goal.invariant_of-self-clause-ready
invariant_of-self-clause-ready c =
    let e = c.args.self.now in
    ready_refused e.node c.refuse_front.new.self (sizes_in e.memories) c.args.code _
    c.refuse_front.ensures.config c.in-Ok.ensures.ok e.ready

-- memory ran out
pub invariant_of-self-in-Err-clause-ready : goal.invariant_of-self-in-Err-clause-ready
invariant_of-self-in-Err-clause-ready c =
    let e = c.args.self.now in
    ready_same e.node c.refuse_front.new.self (sizes_in e.memories)
    c.refuse_front.ensures.config c.in-Err.ensures.err e.ready
