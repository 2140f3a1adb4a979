-- What is read outside of the system: of the packet in a lane's hand, and of a worker's job.
use Rattle.std.specs.Prelude.{◌≡◌, ℕ, List, Option, Some}
use Rattle.std.specs.Option.{option_map}
use Rattle.lpt_events.specs.Lanes.{lane_direction}
use Rattle.lpt_events.specs.Sides.{receiver_side}
use Rattle.lpt_events.specs.declared.config.Config.{Config}
use Rattle.lpt_events.specs.declared.lane.Lane.{Lane}
use Rattle.lpt_link.specs.Links.{LinkData, packet_in_hand}
use Rattle.lpt_memory.specs.Memories.{Contents, sizes_of}
use Rattle.lpt_memory.specs.Readings.{Job, ReadJob}
use Rattle.lpt_node.specs.ParsedViews.{ParsedView}

-- the octets of the packet in a lane's hand
abbrev pub octets_held : LinkData → Lane → Option (List ℕ)
octets_held x l = option_map (λ p. p.octets) (packet_in_hand x l)

-- what was read is these octets, for the receiver of a lane and by this configuration
pub record IsReadOf (c : Config) (octets : Option (List ℕ)) (l : Lane) (o : ParsedView) : Type 0 where
  pub octets_are : octets ≡ Some o.octets
  pub side_is : o.side ≡ receiver_side (lane_direction l)
  pub apid_is : o.apid ≡ c.apid
  pub part_size_is : o.p ≡ c.part_size

-- the reading of a job, by this configuration and for memories of this shape
abbrev pub reading_for : Config → Contents → Job → ReadJob
reading_for c ms t = record {
  boot = t.boot;
  job = t.job;
  read = record { apid = c.apid; sizes = sizes_of ms; message = t.message };
}
