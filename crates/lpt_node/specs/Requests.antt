-- What an end makes of plain requests, or why it makes none.
use Rattle.std.specs.Prelude.{ℕ, if◌then◌else◌, List, Option, Some, None}
use Rattle.lpt_events.specs.declared.config.Config.{Config}
use Rattle.lpt_node.specs.declared.fault.NodeFault.{NodeFault}
use Rattle.lpt_node.specs.declared.fault.NodeFault.TheVariants.{PartRequest, Long}
use Rattle.lpt_events.specs.MadePackets.{tc_made}
use Rattle.lpt_events.specs.Requests.{is_part_request, is_too_long}
use Rattle.lpt_node.specs.Nodes.{NodeData}
use Rattle.lpt_node.specs.Sending.{packet_counted}

-- why a plain request with a body of this length isn't made
abbrev pub refusal_plain : Config → (service subtype len : ℕ) → Option NodeFault
refusal_plain c service subtype len =
    if is_part_request service subtype then Some PartRequest
    else if is_too_long c len then Some Long
    else None

-- a plain request of this source is made: the end after it, and the packet
abbrev pub plain_made : Config
    → NodeData
    → (source flags service subtype : ℕ)
    → List ℕ
    → NodeData × List ℕ
plain_made c d source flags service subtype body = (
  record d { sending = packet_counted d.sending },
  tc_made c source d.sending.count flags service subtype body,
)
