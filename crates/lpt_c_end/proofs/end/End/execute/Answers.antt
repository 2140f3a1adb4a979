-- What was read of the jobs is still for the memories.
use Rattle.std.proofs.Common.{◌∙◌, ap, sym, Some, refl}
use Rattle.lpt_memory.specs.Memories.{Contents, sizes_of}
use Rattle.lpt_c_end.specs.Kept.{sizes_in}
use Rattle.lpt_c_end.proofs.ReadyLemmas.{front_ready, ready_executed, ready_same}
use Rattle.lpt_c_end.proofs.end.End.execute.Goals as goal

-- the oldest was read for these memories
pub apply_front-requires : goal.apply_front-requires
apply_front-requires c =
    let e = c.args.self.now in
    front_ready e.node (sizes_in e.memories) c.in-Here.memories (ap sizes_in c.in-Here.is) e.ready

-- the call is refused
pub invariant_of-self-in-Some-1 : goal.invariant_of-self-in-Some-1
invariant_of-self-in-Some-1 c = record {
  in_range = c.args.self.now.in_range;
  same_side = c.args.self.now.same_side;
  same_config = c.args.self.now.same_config;
  ready = λ sizes is. c.args.self.now.ready sizes (ap sizes_in c.in-Here.is ∙ is);
}

-- packets are to be sent first
pub invariant_of-self-then-not-is_empty-clause-ready : goal.invariant_of-self-then-not-is_empty-clause-ready
invariant_of-self-then-not-is_empty-clause-ready c = λ sizes is. c.args.self.now.ready sizes
    (ap sizes_in c.in-Here.is ∙ is)

-- the oldest was executed
pub invariant_of-self-in-Ok-clause-ready : goal.invariant_of-self-in-Ok-clause-ready
invariant_of-self-in-Ok-clause-ready c =
    let e = c.args.self.now in
    ready_executed e.node c.apply_front.new.self (sizes_in e.memories)
    (Some (sizes_of c.apply_front.new.memories))
    c.in-Here.memories c.apply_front.new.memories _ (ap sizes_in c.in-Here.is) refl
    c.apply_front.ensures.config
    c.in-Ok.ensures.ok e.ready

-- memory ran out
pub invariant_of-self-in-Err-clause-ready : goal.invariant_of-self-in-Err-clause-ready
invariant_of-self-in-Err-clause-ready c =
    λ sizes is. ready_same c.args.self.now.node c.apply_front.new.self
    (sizes_in c.args.self.now.memories)
    c.apply_front.ensures.config c.in-Err.ensures.err c.args.self.now.ready sizes
    (ap sizes_in c.in-Here.is ∙ (ap (λ (ms : Contents). Some (sizes_of ms))
    (sym c.in-Err.ensures.kept) ∙ is))
