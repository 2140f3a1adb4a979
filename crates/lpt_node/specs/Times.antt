-- The clock of an end, and what is given up, for its age or before.
use Rattle.std.specs.Prelude.{ℕ, ◌+◌, ◌-◌, ◌==◌, Bool, ◌&&◌, nat_le, if◌then◌else◌, List, Option, Some, None, is_some}
use Rattle.std.specs.FinMap as map
use Rattle.lpt_acts.specs.Acts.{Setting, On, Back, Within}
use Rattle.lpt_packet.specs.Names.{Name, no_name}
use Rattle.lpt_part.specs.declared.reason.Reason.TheVariants as reason
use Rattle.lpt_table.specs.Deadlines.{due_of}
use Rattle.lpt_table.specs.SettingBack.{reaches_back, set_back}
use Rattle.lpt_events.specs.declared.side.Side.{Side}
use Rattle.lpt_events.specs.declared.config.Config.{Config}
use Rattle.lpt_node.specs.declared.expired.Expired.{Expired}
use Rattle.lpt_node.specs.declared.fault.NodeFault.{NodeFault}
use Rattle.lpt_node.specs.declared.fault.NodeFault.TheVariants.{ClockEnd, NotOpen, NothingDue}
use Rattle.lpt_node.specs.Nodes.{NodeData}
use Rattle.lpt_node.specs.Restarts.{node_within}
use Rattle.lpt_node.specs.Receivers.{table_in, reception_ended, abort_report}
use Rattle.lpt_node.specs.Receiving.{receiver_of, with_receiver, with_report, abort_head}
use Rattle.lpt_events.specs.Counts.{greatest_clock}

-- why the clock doesn't tick
abbrev pub refusal_tick : NodeData → Option NodeFault
refusal_tick d = if d.clock == greatest_clock then Some ClockEnd else None

-- the end one tick later
abbrev pub clock_ticked : NodeData → NodeData
clock_ticked d = record d { clock = d.clock + 1 }

-- whether the clock can be set back by so many ticks: no time that the end knows falls below 0
abbrev pub can_set_back : (ticks : ℕ) → NodeData → Bool
can_set_back n d = nat_le n d.clock && reaches_back n d.receiving.entries

-- the end with its clock set back by so many ticks, and with it each tick of the past
abbrev pub clock_back : (ticks : ℕ) → NodeData → NodeData
clock_back n d = record d {
  receiving = record d.receiving { entries = set_back n d.receiving.entries };
  clock = d.clock - n;
}

-- the end once it has set this
abbrev pub turned_so : Setting → NodeData → NodeData
turned_so On d = clock_ticked d
turned_so (Back n) d = clock_back n d
turned_so (Within l) d = node_within l d

-- the name of the reception that is due
abbrev pub due : Config → NodeData → Option Name
due c d = due_of (table_in (receiver_of c d.receiving)) d.clock

-- why no reception is given up, if this is due
abbrev pub refusal_expire_of : Option Name → Option NodeFault
refusal_expire_of None = Some NothingDue
refusal_expire_of (Some name) = None

-- why no reception is given up for its age
abbrev pub refusal_expire : Config → NodeData → Option NodeFault
refusal_expire c d = refusal_expire_of (due c d)

-- the reception of a name is given up with this report, or none
abbrev pub expired_with : Config → NodeData → Name → Option (List ℕ) → NodeData × Expired
expired_with c d name packet = (
  with_report (with_receiver d (reception_ended (receiver_of c d.receiving) name)) packet,
  record { name = name; packet = packet },
)

-- the reception that is due is given up; if none is, nothing is, and the call is refused
abbrev pub expired_of : Side → Config → NodeData → Option Name → NodeData × Expired
expired_of side c d None = (d, record { name = no_name; packet = None })
expired_of side c d (Some name) = expired_with c d name (abort_report (abort_head side c d name.source) name reason.Expired)

-- why the reception of a name isn't given up: none is open
abbrev pub refusal_give_up : NodeData → Name → Option NodeFault
refusal_give_up d name =
    if is_some (map.get d.receiving.entries name) then None else Some NotOpen

-- the reception of a name is given up before its time: the end after it, and the answer
abbrev pub given_up : Side → Config → NodeData → Name → NodeData × Expired
given_up side c d name = expired_of side c d (Some name)

-- a reception is given up for its age: the end after it, and the answer
abbrev pub reception_expired : Side → Config → NodeData → NodeData × Expired
reception_expired side c d = expired_of side c d (due c d)

-- the name of the reception that is given up: the one that is due, or the open one of a given name
abbrev pub which_ends : Config → NodeData → Option Name → Option Name
which_ends c d None = due c d
which_ends c d (Some name) =
    if is_some (map.get d.receiving.entries name) then Some name else None

-- why none is given up
abbrev pub refusal_end : Config → NodeData → Option Name → Option NodeFault
refusal_end c d None = refusal_expire c d
refusal_end c d (Some name) = refusal_give_up d name
