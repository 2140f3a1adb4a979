-- What the link's noise leaves of a packet, and why octets can't be that.
use Rattle.std.specs.Prelude.{ℕ, nat_lt, Bool, if◌then◌else◌, List, length, Option, Some, None, is_some}
use Rattle.lpt_packet.specs.Packets.{packet_seen}
use Rattle.lpt_events.specs.declared.config.Config.{Config}
use Rattle.lpt_events.specs.LinkPackets.{longest_on_link}
use Rattle.lpt_events.specs.declared.fault.StepFault.{StepFault}
use Rattle.lpt_events.specs.declared.fault.StepFault.TheVariants.{Long, LooksWhole}

-- whether there are more octets than the longest packet of a node has
abbrev pub is_damage_long : Config → List ℕ → Bool
is_damage_long c b = nat_lt (longest_on_link c.part_size) (length b)

-- whether octets are read as a packet: telemetry or a telecommand of any APID, or an idle packet
abbrev pub looks_whole : List ℕ → Bool
looks_whole b = is_some (packet_seen b)

-- why octets can't be what the link's noise left, if they can't
abbrev pub refusal_damage : Config → List ℕ → Option StepFault
refusal_damage c b =
    if is_damage_long c b then Some Long
    else if looks_whole b then Some LooksWhole
    else None
