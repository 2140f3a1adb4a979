-- No reception is out of the table.
use Rattle.std.proofs.Common.{◌∙◌, ap}
use Rattle.lpt_node.specs.Receivers.{table_in}
use Rattle.lpt_node.proofs.receiver.Receiver.table.Goals as goal

pub returns : goal.returns
returns c =
    let t = c.self.inside.table in
    (λ i. record {
      limit = t.limit;
      timeout = t.timeout;
      p = t.p;
      mode = t.mode;
      entries = t.entries;
      out = c.self.invariant.settled i;
    })
    ∙ ap table_in c.self.view_is
