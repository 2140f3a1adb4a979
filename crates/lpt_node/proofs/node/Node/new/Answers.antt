-- In a new ledger no name is open.
use Rattle.std.proofs.Common.{◌≡◌, subst}
use Rattle.std.specs.FinMap as map
use Rattle.std.specs.Prelude.{IfOk}
use Rattle.lpt_acts.specs.Acts.{limits_of}
use Rattle.lpt_ledger.specs.Marks.{Marks}
use Rattle.lpt_node.specs.Nodes.{NodeView}
use Rattle.lpt_node.specs.Restarts.{node_resumed}
use Rattle.lpt_node.proofs.SenderLemmas.{none_open_new}
use Rattle.lpt_node.proofs.node.Node.new.Goals as goal

pub resume-requires-clause-senders : goal.resume-requires-clause-senders
resume-requires-clause-senders c = none_open_new c.new-senders.result c.new-senders.ensures

pub resume-requires-clause-receivers : goal.resume-requires-clause-receivers
resume-requires-clause-receivers c = none_open_new c.new-receivers.result c.new-receivers.ensures

pub returns : goal.returns
returns c =
    let Made : Marks → Marks → Type 0 = λ s r. IfOk c.resume.result (λ (n : NodeView). n ≡ record {
      side = c.args.side;
      config = c.args.config.now;
      at = node_resumed (limits_of c.args.config.now) 0 c.args.config.now.clock s r;
    }) in
    subst (λ (r : Marks). Made map.empty r) c.new-receivers.ensures
    (subst (λ (s : Marks). Made s c.new-receivers.result) c.new-senders.ensures c.resume.ensures)
