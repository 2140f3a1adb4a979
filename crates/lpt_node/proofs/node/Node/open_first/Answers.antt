-- The message is kept, and its sender open.
use Rattle.std.proofs.Common.{◌∙◌, ap, sym, ℕ, List, Option, Some}
use Rattle.lpt_packet.specs.Names.{Name}
use Rattle.lpt_execution.specs.Reporting.{opened_of}
use Rattle.lpt_node.specs.Nodes.{NodeView}
use Rattle.lpt_node.specs.Sending.{message_opened}
use Rattle.lpt_node.proofs.SenderLemmas.{sound-begun}
use Rattle.lpt_node.proofs.node.Node.open_first.Goals as goal

pub invariant_of-self : goal.invariant_of-self
invariant_of-self c =
    sound-begun c.begin.result c.self.inside.config c.self.inside.senders c.begin.new.senders c.self.inside.receiver
    c.self.inside.outgoing c.begin.new.outgoing c.in-Some-name.name c.in-Some.message
    c.self.invariant
    c.begin.ensures.opened
    c.begin.ensures.kept
    c.begin.ensures.unopened
    c.begin.ensures.unkept

pub invariant_of-self-2 : goal.invariant_of-self-2
invariant_of-self-2 c =
    sound-begun c.begin.result c.self.inside.config c.self.inside.senders c.begin.new.senders c.self.inside.receiver
    c.self.inside.outgoing c.begin.new.outgoing c.in-Some-name.name c.in-Some.message
    c.self.invariant
    c.begin.ensures.opened
    c.begin.ensures.kept
    c.begin.ensures.unopened
    c.begin.ensures.unkept

pub returns-clause-at : goal.returns-clause-at
returns-clause-at c =
    (λ i. record {
      sending = record {
        ledger = c.in-Ok.ensures.opened i;
        messages = (c.in-Ok.ensures.kept i).messages;
        count = c.self.inside.counts.count;
        types = c.self.inside.counts.types;
      };
      receiving = record {
        ledger = c.self.inside.receiver.ledger;
        entries = c.self.inside.receiver.entries;
        limit = c.self.inside.config.receptions;
        timeout = c.self.inside.config.timeout;
      };
      outgoing = c.self.inside.config.outgoing;
      clock = c.self.inside.clock;
      boot = c.self.inside.boot;
      jobs = c.self.inside.jobs;
    })
    ∙ ap (λ (n : NodeView). message_opened n.at c.in-Some-name.name c.in-Some.message)
    c.self.view_is
    ∙ ap (λ (m : List ℕ). message_opened c.args.self.now.at c.in-Some-name.name m)
    (sym c.in_ok-copy.ensures)

pub returns-clause-opened : goal.returns-clause-opened
returns-clause-opened c =
    ap (λ (m : List ℕ). Some (c.in-Some-name.name, m)) c.in_ok-copy.ensures
    ∙ ap (λ (ms : List (List ℕ)). opened_of (Some c.in-Some-name.name) ms) (sym c.in-Some.ensures.items ∙ c.into_iter.ensures.rest)
    ∙ ap (λ (o : Option Name). opened_of o c.args.messages.items) (sym c.in-Some-name.is)
