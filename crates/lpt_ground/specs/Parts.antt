-- The packets of a message that goes up in parts, and their names.
use Rattle.std.specs.Prelude.{◌≡◌, ℕ, suc, ◌+◌, ◌*◌, ◌%◌, List, length}
use Rattle.lpt_packet.specs.Packets.{spelling}
use Rattle.lpt_packet.specs.declared.direction.Direction.TheVariants.{Up}
use Rattle.lpt_pus.specs.Commands.{Command, packet_of}
use Rattle.lpt_part.specs.Parts.{Piece, body_of, nth_part}
use Rattle.lpt_part.specs.Splitting.{part_count}
use Rattle.lpt_events.specs.Arrivals.{part_subtype}
use Rattle.lpt_events.specs.Counts.{sequence_counts}
use Rattle.lpt_events.specs.MadePackets.{part_made}
use Rattle.lpt_events.specs.declared.config.Config.{Config}
use Rattle.lpt_ground.specs.declared.large.Large.{Large}

-- how many parts a message has
abbrev pub parts_of : Large → ℕ
parts_of l = part_count (length l.message) l.part_size

-- the transaction identifier of the name behind so many
abbrev pub id_of : Large → (used : ℕ) → ℕ
id_of l used = (l.names.first + used) % 65536

-- so many rounds may settle nothing under the name behind so many: 4 more under each
abbrev pub patience : (used : ℕ) → ℕ
patience used = 4 * (used + 1)

-- the sequence count behind so many packets
abbrev pub behind : (first many : ℕ) → ℕ
behind first many = (first + many) % sequence_counts

-- what the telecommand of this count says that carries a part
abbrev pub part_command : Large → (count : ℕ) → Piece → Command
part_command l count q = record {
  apid = l.apid;
  count = count;
  flags = 0;
  service = 13;
  subtype = part_subtype Up q.kind;
  source = l.source;
  body = body_of q;
}

-- The packet of the part behind so many, under the name behind so many, if the first packet
-- under that name has this sequence count.
abbrev pub part_packet : Large → (used first k : ℕ) → List ℕ
part_packet l used first k =
    spelling (packet_of (part_command l (behind first k)
    (nth_part l.part_size (id_of l used) l.message (suc k))))

-- Each is the packet that a sending node of this configuration makes of that part, which has no
-- counter and no time.
abbrev pub PacketsAreTheNodes : Type 0
PacketsAreTheNodes =
    (c : Config) (l : Large) (used first k counter time : ℕ)
    → c.apid ≡ l.apid
    → c.part_size ≡ l.part_size
    → part_packet l used first k
    ≡ part_made c Up l.source (behind first k) counter time
    (nth_part c.part_size (id_of l used) l.message (suc k))
