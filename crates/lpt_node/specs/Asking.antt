-- Why a call would be refused now.
use Rattle.std.specs.Prelude.{Option}
use Rattle.lpt_events.specs.declared.config.Config.{Config}
use Rattle.lpt_node.specs.declared.ask.Ask.{Ask}
use Rattle.lpt_node.specs.declared.ask.Ask.TheVariants.{Open, Send, Plain, Finish, Tick, Expire, Claim, Apply}
use Rattle.lpt_node.specs.declared.fault.NodeFault.{NodeFault}
use Rattle.lpt_node.specs.Jobs.{refusal_claim, refusal_apply}
use Rattle.lpt_node.specs.Nodes.{NodeData}
use Rattle.lpt_node.specs.Requests.{refusal_plain}
use Rattle.lpt_node.specs.Sending.{refusal_open, refusal_send, refusal_finish}
use Rattle.lpt_node.specs.Times.{refusal_tick, refusal_expire}

-- the first reason why the call would be refused, out of memory aside
abbrev pub refusal_of : Config → NodeData → Ask → Option NodeFault
refusal_of c d (Open name len) = refusal_open c d name len
refusal_of c d (Send name k) = refusal_send c d name k
refusal_of c d (Plain service subtype len) = refusal_plain c service subtype len
refusal_of c d (Finish name) = refusal_finish d name
refusal_of c d Tick = refusal_tick d
refusal_of c d Expire = refusal_expire c d
refusal_of c d Claim = refusal_claim d
refusal_of c d Apply = refusal_apply d
