-- What the spacecraft's end does with a packet, and at a tick of its clock.
use Rattle.std.specs.Prelude.{ℕ, zero, suc, List, [], ◌∷◌, ◌++◌, length, Option, Some, None, option_to_list}
use Rattle.lpt_events.specs.Arrivals.{arrival}
use Rattle.lpt_events.specs.declared.config.Config.{Config}
use Rattle.lpt_events.specs.declared.side.Side.TheVariants.{Craft}
use Rattle.lpt_memory.specs.Memories.{Contents, sizes_of}
use Rattle.lpt_packet.specs.Names.{Name}
use Rattle.lpt_part.specs.Splitting.{part_count}
use Rattle.lpt_node.specs.declared.accepted.Accepted.{Accepted}
use Rattle.lpt_node.specs.declared.fault.NodeFault.{NodeFault}
use Rattle.lpt_node.specs.Accepting.{packet_accepted}
use Rattle.lpt_node.specs.Jobs.{job_claimed, job_committed, job_executed}
use Rattle.lpt_node.specs.Nodes.{NodeData, no_data}
use Rattle.lpt_node.specs.Sending.{part_sent, sender_closed}
use Rattle.lpt_node.specs.Times.{refusal_tick, clock_ticked, reception_expired}

-- ---- what changes

-- the spacecraft's end: its node, and its memories
pub record Onboard : Type 0 where
  pub node : NodeData
  pub memories : Contents

-- an end at which nothing has happened; these are its memories' first contents
abbrev pub new_end : Config → Contents → Onboard
new_end c first = record { node = no_data c; memories = first }

-- ---- a report that is too long for a packet

-- what was made, with the packet of part k behind
abbrev pub then_sent : Config → Name → (k : ℕ) → NodeData × List (List ℕ) → NodeData × List (List ℕ)
then_sent c id k x =
    ((part_sent Craft c x.0 id k).0, x.1 ++ (part_sent Craft c x.0 id k).1 ∷ [])

-- the first k parts of a message are sent
abbrev pub first_sent : Config → NodeData → Name → (k : ℕ) → NodeData × List (List ℕ)
first_sent c d id zero = (d, [])
first_sent c d id (suc k) = then_sent c id (suc k) (first_sent c d id k)

-- all parts of a message were sent, and then its sender is closed
abbrev pub then_closed : Name → NodeData × List (List ℕ) → NodeData × List (List ℕ)
then_closed id x = (sender_closed x.0 id, x.1)

-- a message that was opened is sent in all its parts, and its sender is closed
abbrev pub all_sent : Config → NodeData → Option (Name × List ℕ) → NodeData × List (List ℕ)
all_sent c d None = (d, [])
all_sent c d (Some x) =
    then_closed x.0 (first_sent c d x.0 (part_count (length x.1) c.part_size))

-- ---- a request

-- the request that waits is claimed, and its reading for the memories handed in
abbrev pub read_over : Config → Contents → NodeData → NodeData
read_over c ms d =
    (job_committed (job_claimed d).0 (job_claimed d).1.boot (job_claimed d).1.job (record {
      apid = c.apid;
      sizes = sizes_of ms;
      message = (job_claimed d).1.message;
    })).0

-- an end, and the packets that were made before it came to that
abbrev pub behind : List (List ℕ) → Contents → NodeData × List (List ℕ) → Onboard × List (List ℕ)
behind before ms x = (record { node = x.0; memories = ms }, before ++ x.1)

-- the request that waits is read and executed, and its reports are sent
abbrev pub request_worked : Config → Onboard → Onboard × List (List ℕ)
request_worked c s =
    let x = job_executed c (read_over c s.memories s.node) s.memories in
    behind x.0.1.packets x.1 (all_sent c x.0.0 x.0.1.opened)

-- the same, if something was released
abbrev pub worked_if : Config → Onboard → Option (List ℕ) → Onboard × List (List ℕ)
worked_if c s None = (s, [])
worked_if c s (Some m) = request_worked c s

-- ---- what comes

-- what was made, behind these packets
abbrev pub after : List (List ℕ) → Onboard × List (List ℕ) → Onboard × List (List ℕ)
after before x = (x.0, before ++ x.1)

-- a packet was taken: a report that a reception was broken off is sent, and what was released is
-- executed
abbrev pub after_accepted : Config → Contents → NodeData × Accepted → Onboard × List (List ℕ)
after_accepted c ms x =
    after (option_to_list x.1.packet)
    (worked_if c (record { node = x.0; memories = ms }) x.1.released)

-- a packet comes
abbrev pub packet_taken : Config → Onboard → List ℕ → Onboard × List (List ℕ)
packet_taken c s b =
    after_accepted c s.memories
    (packet_accepted Craft c s.node (arrival Craft c.apid c.part_size b))

-- the clock is one tick on, but at its end
abbrev pub ticked_by : NodeData → Option NodeFault → NodeData
ticked_by d None = clock_ticked d
ticked_by d (Some fault) = d

-- what was made, with the report of the reception that is due behind, if one is
abbrev pub then_expired : Config → NodeData × List (List ℕ) → NodeData × List (List ℕ)
then_expired c x = (
  (reception_expired Craft c x.0).0,
  x.1
      ++ option_to_list (reception_expired Craft c x.0).1.packet,
)

-- the receptions that are due expire, k of them at most
abbrev pub first_expired : Config → NodeData → (k : ℕ) → NodeData × List (List ℕ)
first_expired c d zero = (d, [])
first_expired c d (suc k) = then_expired c (first_expired c d k)

-- a tick comes: the clock is set on, and all receptions that are due expire; no more than
-- c.receptions are open
abbrev pub beaten : Config → Onboard → Onboard × List (List ℕ)
beaten c s =
    behind [] s.memories
    (first_expired c (ticked_by s.node (refusal_tick s.node)) c.receptions)
