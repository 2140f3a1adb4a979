-- What was read of the jobs is still for the memories.
use Rattle.lpt_c_end.specs.Kept.{sizes_in}
use Rattle.lpt_c_end.proofs.ReadyLemmas.{ready_given_up, ready_same}
use Rattle.lpt_c_end.proofs.end.End.give_up.Goals as goal

-- the reception is given up
pub invariant_of-self-clause-ready : goal.invariant_of-self-clause-ready
invariant_of-self-clause-ready c =
    let e = c.make_place.new.self in
    ready_given_up e.node c.give_up.new.self (sizes_in e.memories) _ _ _ c.args.name
    c.give_up.ensures.config c.in-Ok.ensures.ok e.ready

-- memory ran out
pub invariant_of-self-in-Err-clause-ready : goal.invariant_of-self-in-Err-clause-ready
invariant_of-self-in-Err-clause-ready c =
    let e = c.make_place.new.self in
    ready_same e.node c.give_up.new.self (sizes_in e.memories) c.give_up.ensures.config
    c.in-Err.ensures.err e.ready
