-- The spacecraft has a job for the worker, since the claim isn't refused.
use Rattle.std.proofs.Common.{◌≡◌, ◌∙◌, ap, sym, Option, Some, None}
use Rattle.std.specs.Option.{option_map}
use Rattle.lpt_memory.specs.Readings.{Job}
use Rattle.lpt_node.specs.declared.fault.NodeFault.{NodeFault}
use Rattle.lpt_node.specs.Faults.{node_fault}
use Rattle.lpt_node.specs.Jobs.{refusal_claim}
use Rattle.lpt_node.specs.Nodes.{NodeData}
use Rattle.lpt_model.specs.State.{refusal_claim_by}
use Rattle.lpt_model.specs.Tickets.{ticket_of}
use Rattle.lpt_system.specs.SystemInside.{state_of}
use Rattle.lpt_system.proofs.system.System.claim.Goals as goal

-- a worker that has no job gets one where one waits
one_waits : (d : NodeData) (t : Option Job) (e : NodeFault)
    → refusal_claim_by d t ≡ None
    → refusal_claim d ≡ Some e
    → ⊥
one_waits d (Some t) e free is = cc
one_waits d None e free is =
    let none = ap (option_map node_fault) (sym is) ∙ free in cc

pub unreachable-requires : goal.unreachable-requires
unreachable-requires c =
    one_waits c.args.self.now.on_craft.at
    (ticket_of (state_of c.args.self.now).tickets c.args.worker) _ c.requires
    c.in-Err.ensures.refused
