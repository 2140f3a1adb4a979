-- A handle may go to another thread: its end stands in a box that it alone has, and neither keeps
-- anything that is of one thread.
use mir.Raw.{raw}
use base.Shift.{Keyless}
use denote.Memory.{lone}
use denote.RawPtr.{Ptr}
use denote.Struct.Struct.{exits_of}
use denote.Struct.Owning.{shape, fields, to}
use denote.Param.Send.{IsSend, AllSend, owning_send, struct_send, sendable}
use Rattle.std.specs.Prelude.{Option, None, Some}
use Rattle.std.specs.declared.alloc.Global.{Global}
use Rattle.std.proofs.Crossing as heap
use Rattle.std.proofs.MapsCrossing as maps
use Rattle.std_alloc.proofs.SendSync.{quiet, lies}
use Rattle.std_heap.proofs.Global.TheSendSync as handle
use Rattle.lpt_events.specs.contracts.config.Config as settings
use Rattle.lpt_jobs.specs.contracts.queue.JobQueue as queue
use Rattle.lpt_ledger.specs.contracts.ledger.Ledger as ledger
use Rattle.lpt_memory.specs.contracts.memories.Memories as memories
use Rattle.lpt_memory.specs.contracts.shape.Shape as shapes
use Rattle.lpt_node.specs.contracts.counts.Counts as counts
use Rattle.lpt_node.specs.contracts.node.Node as node
use Rattle.lpt_node.specs.contracts.outgoing.Outgoing as outgoing
use Rattle.lpt_node.specs.contracts.receiver.Receiver as receiver
use Rattle.lpt_packet.specs.contracts.octets.Octets as octets
use Rattle.lpt_c_end.specs.Held.{held_by}
use Rattle.lpt_c_end.specs.contracts.end.End as inner
use Rattle.lpt_c_end.specs.contracts.kept.Kept as kept
use Rattle.lpt_c_end.specs.contracts.handle.LptHeld.{the_row, the_type}

octets_send : IsSend octets.the_row
octets_send = search (sendable, heap.crosses) depth 40

config_send : IsSend settings.the_row
config_send = search (sendable, heap.crosses) depth 100 fits 20000

memories_send : IsSend memories.the_row
memories_send = search (octets_send, sendable, heap.crosses) depth 60

shape_send : IsSend shapes.the_row
shape_send = search (sendable, heap.crosses) depth 60

kept_send : IsSend kept.the_row
kept_send = search (memories_send, shape_send, sendable, heap.crosses) depth 60

ledger_send : IsSend ledger.the_row
ledger_send = search (sendable, heap.crosses, maps.crosses) depth 60

outgoing_send : IsSend outgoing.the_row
outgoing_send = search (octets_send, sendable, heap.crosses, maps.crosses) depth 60

counts_send : IsSend counts.the_row
counts_send = search (sendable, heap.crosses, maps.crosses) depth 60

receiver_send : IsSend receiver.the_row
receiver_send = search (ledger_send, octets_send, config_send, sendable, heap.crosses) depth 100 fits 20000

queue_send : IsSend queue.the_row
queue_send = search (octets_send, sendable, heap.crosses) depth 100 fits 20000

node_send : IsSend node.the_row
node_send =
    search (
      config_send,
      ledger_send,
      outgoing_send,
      counts_send,
      receiver_send,
      queue_send,
      sendable,
      heap.crosses,
    ) depth 100 fits 20000

end_send : IsSend inner.the_row
end_send =
    search (config_send, node_send, kept_send, octets_send, sendable, heap.crosses) depth 100
    fits 20000

held_keyless : (a : Global) (p : Ptr) (v : Option inner.the_row.Denot) → Keyless (held_by a p v)
held_keyless a p None = tt
held_keyless a p (Some x) =
    (lies inner.the_row end_send p x, heap.frees.frees a (raw (lone inner.the_row.mir)) p)

pub send : IsSend the_row
send =
    let all : AllSend (fields the_type) = (search sendable, (handle.the_field_send, tt)) in
    owning_send the_type all (λ d. held_keyless d.alloc d.at d.value)
    (λ k. quiet (to the_type) (exits_of k (fields the_type)) ((struct_send (shape the_type) all).leaving k))
