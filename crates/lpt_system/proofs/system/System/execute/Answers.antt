-- There is room for the reports of an execution.
use Rattle.std.proofs.Common.{arith, ◌≡◌, ap, length}
use Rattle.lpt_node.specs.Jobs.{Execution}
use Rattle.lpt_node.specs.Nodes.{NodeData}
use Rattle.lpt_memory.specs.Memories.{Contents}
use Rattle.lpt_system.proofs.JobLemmas.{few_packets}
use Rattle.lpt_system.proofs.system.System.execute.Goals as goal

pub put_reports-requires : goal.put_reports-requires
put_reports-requires c =
    let told : length c.in-Ok.executed.packets.items
    ≡ length
    (Rattle.lpt_node.specs.Jobs.job_executed c.args.self.now.on_craft.config
    c.args.self.now.on_craft.at c.args.self.now.memories).0.1.packets =
    ap (λ (x : (NodeData × Execution) × Contents). length x.0.1.packets) c.in-Ok.ensures.ok in
    omega (
      arith,
      told,
      few_packets c.args.self.now.on_craft.config c.args.self.now.on_craft.at c.args.self.now.memories,
      c.in_ok-reserve-2.ensures.room,
    )
