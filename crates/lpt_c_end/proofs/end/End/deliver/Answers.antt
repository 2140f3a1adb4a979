-- What was read of the jobs is still for the memories.
use Rattle.lpt_c_end.specs.Kept.{sizes_in}
use Rattle.lpt_c_end.proofs.ReadyLemmas.{ready_accepted, ready_same}
use Rattle.lpt_c_end.proofs.end.End.deliver.Goals as goal

-- the packet wasn't taken
pub invariant_of-self-clause-ready : goal.invariant_of-self-clause-ready
invariant_of-self-clause-ready c =
    let e = c.make_place.new.self in
    ready_same e.node c.accept_octets.new.self (sizes_in e.memories) c.accept_octets.ensures.config
    c.in_default.ensures.err e.ready

-- it was
pub invariant_of-self-2-clause-ready : goal.invariant_of-self-2-clause-ready
invariant_of-self-2-clause-ready c =
    let e = c.make_place.new.self in
    ready_accepted e.node c.accept_octets.new.self (sizes_in e.memories) _ _ _ _
    c.accept_octets.ensures.config c.in-Ok.ensures.ok e.ready
