-- What was read of the jobs is still for the memories.
use Rattle.lpt_c_end.specs.Kept.{sizes_in}
use Rattle.lpt_c_end.proofs.ReadyLemmas.{ready_plain, ready_same}
use Rattle.lpt_c_end.proofs.end.End.plain.Goals as goal

-- the packet is made
pub invariant_of-self-clause-ready : goal.invariant_of-self-clause-ready
invariant_of-self-clause-ready c =
    let e = c.make_place.new.self in
    ready_plain e.node c.plain.new.self (sizes_in e.memories) e.node.config c.in-Ok.packet
    c.args.source c.in-Some.flags c.args.service c.args.subtype c.args.body.now
    c.plain.ensures.config c.in-Ok.ensures.ok e.ready

-- memory ran out
pub invariant_of-self-in-Err-clause-ready : goal.invariant_of-self-in-Err-clause-ready
invariant_of-self-in-Err-clause-ready c =
    let e = c.make_place.new.self in
    ready_same e.node c.plain.new.self (sizes_in e.memories) c.plain.ensures.config
    c.in-Err.ensures.err e.ready
