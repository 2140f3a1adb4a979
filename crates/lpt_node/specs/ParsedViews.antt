-- What a delivered packet was read from.
use Rattle.std.specs.Prelude.{ℕ, List}
use Rattle.lpt_events.specs.declared.side.Side.{Side}
use Rattle.lpt_events.specs.Arrivals.{Arrival, arrival}
use Rattle.lpt_node.specs.Nodes.{NodeView}

-- the octets, and the side, the APID and the part size that they were read for
pub record ParsedView : Type 0 where
  pub octets : List ℕ
  pub side : Side
  pub apid : ℕ
  pub p : ℕ

-- what the octets are
abbrev pub arrival_from : ParsedView → Arrival
arrival_from o = arrival o.side o.apid o.p o.octets

-- what octets are that are delivered to an end
abbrev pub arrival_at : NodeView → List ℕ → Arrival
arrival_at n b = arrival n.side n.config.apid n.config.part_size b
