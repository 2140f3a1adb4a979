-- What a link's packets show.
use Rattle.std.specs.Prelude.{ℕ, List}
use Rattle.lpt_link.specs.declared.packet.Head.{Head}
use Rattle.lpt_link.specs.declared.packet.LinkPacket.{LinkPacket}

-- all of them, each at the place of its number, and how many can be put without taking memory
pub record PacketsView : Type 0 where
  pub items : List LinkPacket
  pub spare : ℕ

-- what a packet has besides its octets
abbrev pub head_of : LinkPacket → Head
head_of p = record { direction = p.direction; held = p.held; tag = p.tag }
