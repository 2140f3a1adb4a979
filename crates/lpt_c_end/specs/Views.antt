-- What can be seen of an end, in numbers.
use Rattle.std.specs.Prelude.{ℕ, ◌-◌, length, Option, Some, None}
use Rattle.std.specs.Option.{unwrap_or}
use Rattle.lpt_jobs.specs.Jobs.{claimed_in}
use Rattle.lpt_table.specs.Walking.{next_due}
use Rattle.lpt_node.specs.declared.fault.NodeFault.{NodeFault}
use Rattle.lpt_node.specs.Receivers.{table_in}
use Rattle.lpt_node.specs.Receiving.{receiver_of}
use Rattle.lpt_node.specs.Times.{refusal_expire}
use Rattle.lpt_c_end.specs.declared.end.End.{End}
use Rattle.lpt_c_end.specs.declared.viewing.LptView.{LptView}

-- whether nothing refuses, as a number
abbrev pub if_none : Option NodeFault → ℕ
if_none None = 1
if_none (Some fault) = 0

-- the clock, whether a reception is due, when the next one is, the packets to be sent, and the
-- requests that weren't read and executed
abbrev pub view_of : End → LptView
view_of e = record {
  clock = e.node.at.clock;
  due = if_none (refusal_expire e.config e.node.at);
  next_due = unwrap_or (next_due (table_in (receiver_of e.config e.node.at.receiving))) 0;
  outgoing = length e.outbox.items;
  unread = length e.node.at.jobs.jobs - claimed_in e.node.at.jobs.jobs;
  requests = length e.node.at.jobs.jobs;
}

-- the same behind a handle, and what stood there before if there is none
abbrev pub view_told : Option End → (before : LptView) → LptView
view_told None before = before
view_told (Some e) before = view_of e
