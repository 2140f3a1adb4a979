-- Neither the clock nor a last tick falls below 0, and the same reception is due.
use Rattle.std.proofs.Common.{◌≡◌, ◌∙◌, ap, ◌-◌, ◌≤◌, ℕ, nat_le, IsTrue}
use Rattle.lpt_packet.proofs.BoolLemmas.{true_le, and_left, and_right}
use Rattle.lpt_table.specs.Deadlines.{due_of}
use Rattle.lpt_table.specs.SettingBack.{reaches_back, table_back}
use Rattle.lpt_table.specs.Tables.{TableState}
use Rattle.lpt_node.specs.Nodes.{NodeView}
use Rattle.lpt_node.specs.Receivers.{table_in}
use Rattle.lpt_node.specs.Receiving.{receiver_of}
use Rattle.lpt_node.specs.Times.{can_set_back, clock_back, due}
use Rattle.lpt_node.proofs.node.Node.set_back.Goals as goal

-- what is due stays the same once clock and last ticks are set back
same_due : (n : NodeView) (ticks : ℕ)
    → ((t : TableState) (ticks now : ℕ) → IsTrue (reaches_back ticks t.entries)
    → ticks ≤ now → due_of (table_back ticks t) (now - ticks) ≡ due_of t now)
    → IsTrue (can_set_back ticks n.at)
    → due n.config (clock_back ticks n.at) ≡ due n.config n.at
same_due n ticks law can =
    law (table_in (receiver_of n.config n.at.receiving)) ticks n.at.clock
    (and_right (nat_le ticks n.at.clock) (reaches_back ticks n.at.receiving.entries) can)
    (true_le ticks n.at.clock
    (and_left (nat_le ticks n.at.clock) (reaches_back ticks n.at.receiving.entries) can))

pub set_back-requires : goal.set_back-requires
set_back-requires c =
    let e = c.self.inside in
    and_right (nat_le c.args.ticks e.clock) (reaches_back c.args.ticks e.receiver.entries)
    (ap (λ (n : NodeView). can_set_back c.args.ticks n.at) c.self.view_is ∙ c.requires)

pub overflow_sub-self : goal.overflow_sub-self
overflow_sub-self c =
    let e = c.self.inside in
    true_le c.args.ticks e.clock
    (and_left (nat_le c.args.ticks e.clock) (reaches_back c.args.ticks e.receiver.entries)
    (ap (λ (n : NodeView). can_set_back c.args.ticks n.at) c.self.view_is ∙ c.requires))

pub returns-clause-due : goal.returns-clause-due
returns-clause-due c =
    let e = c.self.inside in
    (λ i. due e.config (record {
      sending = record {
        ledger = e.senders;
        messages = e.outgoing.messages;
        count = e.counts.count;
        types = e.counts.types;
      };
      receiving = record {
        ledger = (c.set_back.ensures i).ledger;
        entries = (c.set_back.ensures i).entries;
        limit = e.config.receptions;
        timeout = e.config.timeout;
      };
      outgoing = e.config.outgoing;
      clock = e.clock - c.args.ticks;
      boot = e.boot;
      jobs = e.jobs;
    }))
    ∙ ap (λ (n : NodeView). due n.config (clock_back c.args.ticks n.at)) c.self.view_is
    ∙ same_due c.args.self.now c.args.ticks c.set_back_keeps_times.ensures.due c.requires
