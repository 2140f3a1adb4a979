-- Plain requests: the telecommands that ground makes besides the parts of messages.
use Rattle.std.specs.Prelude.{ℕ, ◌+◌, nat_lt, Bool, is_some}
use Rattle.lpt_packet.specs.declared.direction.Direction.TheVariants.{Up}
use Rattle.lpt_events.specs.declared.config.Config.{Config}
use Rattle.lpt_events.specs.Arrivals.{carried_kind}
use Rattle.lpt_events.specs.LinkPackets.{longest_on_link}

-- whether a telecommand of this service and subtype carries a part, so that it is no plain request
abbrev pub is_part_request : (service subtype : ℕ) → Bool
is_part_request service subtype = is_some (carried_kind Up service subtype)

-- whether the packet of a plain request is too long, if its body has so many octets: 13 octets
-- stand round the body
abbrev pub is_too_long : Config → (len : ℕ) → Bool
is_too_long c len = nat_lt (longest_on_link c.part_size) (len + 13)
