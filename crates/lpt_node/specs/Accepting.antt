-- What an end does with a packet that is delivered to it.
use Rattle.std.specs.Prelude.{◌≡◌, ◌+◌, ◌<◌, ◌^◌, Bool, true, false}
use Rattle.lpt_events.specs.declared.side.Side.{Side}
use Rattle.lpt_events.specs.declared.config.Config.{Config}
use Rattle.lpt_node.specs.declared.accepted.Accepted.{Accepted}
use Rattle.lpt_events.specs.declared.outcome.Outcome.{Outcome}
use Rattle.lpt_events.specs.declared.outcome.Outcome.TheVariants as outcome
use Rattle.lpt_events.specs.declared.outcome.Why.TheVariants as why
use Rattle.lpt_events.specs.Arrivals.{Arrival, NotRead, AnIdle, Foreign, ARequest, AReport, NoPart, APart, AnAbort}
use Rattle.lpt_jobs.specs.Jobs.{jobs_numbered}
use Rattle.lpt_node.specs.Nodes.{NodeData, NodeView}
use Rattle.lpt_node.specs.ParsedViews.{ParsedView}
use Rattle.lpt_node.specs.Sending.{sender_closed}
use Rattle.lpt_node.specs.Receiving.{outcome_noted, packet_ignored, plain_released, with_job, part_accepted}

-- a packet is delivered: the end after it, and the answer
abbrev pub packet_accepted : Side → Config → NodeData → Arrival → NodeData × Accepted
packet_accepted side c d NotRead = (d, packet_ignored why.Unreadable)
packet_accepted side c d AnIdle = (d, packet_ignored why.Idle)
packet_accepted side c d Foreign = (d, packet_ignored why.ForeignApid)
packet_accepted side c d (ARequest b) = (with_job side d b, plain_released b)
packet_accepted side c d (AReport service subtype) =
    (d, outcome_noted (outcome.ReportNoted service subtype))
packet_accepted side c d NoPart = (d, packet_ignored why.BadPart)
packet_accepted side c d (AnAbort name reason) =
    (sender_closed d name, outcome_noted (outcome.AbortNoted name reason))
packet_accepted side c d (APart q) = part_accepted side c d q

-- the packet was read for this end, and there is a number for one job more
pub record IsFor (n : NodeView) (o : ParsedView) : Type 0 where
  pub side : o.side ≡ n.side
  pub apid : o.apid ≡ n.config.apid
  pub p : o.p ≡ n.config.part_size
  pub numbers : jobs_numbered n.at.jobs + 1 < 2 ^ 64

-- whether memory is taken for an outcome: a part is kept, a message released, or a reception broken off
abbrev pub takes_memory : Outcome → Bool
takes_memory (outcome.Kept name number) = true
takes_memory (outcome.Again name number) = false
takes_memory (outcome.Released name len) = true
takes_memory (outcome.PlainReleased len) = true
takes_memory (outcome.ReportNoted service subtype) = false
takes_memory (outcome.AbortNoted name reason) = false
takes_memory (outcome.Broken name reason) = true
takes_memory (outcome.Ignored w) = false

-- the same of an answer
abbrev pub grows : Accepted → Bool
grows r = takes_memory r.outcome
