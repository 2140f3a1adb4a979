-- What was read of the jobs is still for the memories.
use Rattle.lpt_c_end.specs.Kept.{sizes_in}
use Rattle.lpt_c_end.proofs.ReadyLemmas.{ready_opened}
use Rattle.lpt_c_end.proofs.end.End.open.Goals as goal

pub invariant_of-self-clause-ready : goal.invariant_of-self-clause-ready
invariant_of-self-clause-ready c =
    let e = c.args.self.now in
    ready_opened c.open.result e.node c.open.new.self (sizes_in e.memories) _ _
    c.open.ensures.config
    c.open.ensures.ok c.open.ensures.err e.ready
