-- What packets carry at the profile's own layouts.
use Rattle.std.specs.Prelude.{◌≡◌, ℕ, Option, Some, None}
use Rattle.lpt_packet.specs.declared.direction.Direction.{Direction}
use Rattle.lpt_packet.specs.declared.direction.Direction.TheVariants.{Up, Down}
use Rattle.lpt_events.specs.Arrivals.{Arrival, APart}
use Rattle.lpt_events.specs.NamedParts.{NamedPart, part_named}
use Rattle.lpt_layout.specs.declared.layout.Layout.{Layout}
use Rattle.lpt_layout.specs.Own.{own_parts, own_tc, own_tm}
use Rattle.lpt_carried.specs.declared.reading.Reading.{Reading}
use Rattle.lpt_carried.specs.Carried.{Named}

-- the profile's layout of packets that go in this direction
abbrev pub own_layout : Direction → Layout
own_layout Up = own_tc
own_layout Down = own_tm

-- parts of p octets are read as the profile has them
pub record IsOwn (r : Reading) (p : ℕ) : Type 0 where
  pub layout_is : r.layout ≡ own_layout r.direction
  pub parts_are : r.parts ≡ own_parts
  pub size_is : r.part_size ≡ Some p

-- a part that a packet carries, in the profile's words
abbrev pub in_own : Named → NamedPart
in_own c = part_named c.user c.piece

-- the part that has arrived, if one has
abbrev pub part_arrived : Arrival → Option NamedPart
part_arrived (APart q) = Some q
part_arrived _ = None
