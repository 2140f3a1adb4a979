-- What the link has in a lane's hand is what the journal says.
use Rattle.std.proofs.Common.{◌≡◌, ◌∙◌, ap, subst, sym, refl, ℕ, List, Option, Some, None}
use Rattle.std.specs.Option.{option_map, option_and_then}
use Rattle.std.specs.Prelude.{slice_get}
use Rattle.lpt_events.specs.declared.entry.Entry.{Entry}
use Rattle.lpt_events.specs.declared.lane.Lane.{Lane}
use Rattle.lpt_link.specs.declared.packet.LinkPacket.{LinkPacket}
use Rattle.lpt_memory.specs.Memories.{Contents}
use Rattle.lpt_journal.specs.Hands.{hand}
use Rattle.lpt_node.specs.ParsedViews.{ParsedView}
use Rattle.lpt_system.specs.declared.system.System.{System}
use Rattle.lpt_system.specs.Outside.{octets_held, IsReadOf}
use Rattle.lpt_world.specs.Outside.{octets_of, octets_in_hand, IsOfHand}
use Rattle.lpt_world.specs.WorldInside.{IsShown}
use Rattle.lpt_world.specs.Worlds.{Shown, history_of}
use Rattle.lpt_world.proofs.WorldLemmas.{packet_shown}

-- a world of this system, first contents and journal
abbrev pub world_of : System → Contents → List Entry → Shown
world_of e first j = record { config = e.config; first = first; journal = j }

pub octets_shown : (e : System) (first : Contents) (j : List Entry) (l : Lane)
    → IsShown e first j
    → octets_held e.link.at l ≡ octets_in_hand (world_of e first j) l
octets_shown e first j l k =
    ap (λ o. option_map (λ (p : LinkPacket). p.octets) (option_and_then (slice_get e.link.at.packets) o))
    (k.shows.link.hands l)
    ∙ go (hand (history_of e.config first j) l) where
      go : (o : Option ℕ)
          → option_map (λ (p : LinkPacket). p.octets) (option_and_then (slice_get e.link.at.packets) o)
          ≡ option_and_then (octets_of (world_of e first j)) o
      go None = refl
      go (Some n) = packet_shown e first j n k

-- what was read is what the link has in a lane's hand, where it is what the journal says
pub read_of : (e : System) (first : Contents) (j : List Entry) (l : Lane) (o : ParsedView)
    → IsShown e first j
    → IsOfHand (world_of e first j) l o
    → IsReadOf e.config (octets_held e.link.at l) l o
read_of e first j l o k is =
    subst (λ octets. IsReadOf e.config octets l o) (sym (octets_shown e first j l k)) is
