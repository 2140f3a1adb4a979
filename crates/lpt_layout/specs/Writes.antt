-- What the writers answer.
use Rattle.std.specs.Prelude.{◌≡◌, ◌<◌, ◌≤◌, List, ℕ, length, Result, Ok, Err}
use Rattle.lpt_packet.specs.declared.packet.PacketKind.{PacketKind}
use Rattle.lpt_packet.specs.Sizes.{longest_packet}
use Rattle.lpt_layout.specs.declared.fault.LayoutFault.{LayoutFault}
use Rattle.lpt_layout.specs.declared.fault.LayoutFault.TheVariants.{Unfit, TooLong, Memory}
use Rattle.lpt_layout.specs.declared.layout.Layout.{Layout}
use Rattle.lpt_layout.specs.Messages.{Said, packet_of}
use Rattle.lpt_layout.specs.Packets.{spelling_as}
use Rattle.lpt_part.specs.Parts.{Piece}
use Rattle.lpt_layout.specs.declared.layout.PartLayout.{PartLayout}
use Rattle.lpt_layout.specs.Parts.{PieceFits, body_as}

-- the octets of a message's packet
abbrev pub octets_as : Layout → PacketKind → Said → List ℕ
octets_as l kind s = spelling_as l.has_checksum (packet_of l kind s)

-- what a writer made is these octets, of what fits: they are too long exactly if they are more
-- than a packet has; otherwise memory may have run out
abbrev pub Writes : Type 0 → List ℕ → Result (List ℕ) LayoutFault → Type 0
Writes fits s (Ok o) = fits × (length s ≤ longest_packet) × (o ≡ s)
Writes fits s (Err Unfit) = ¬ fits
Writes fits s (Err TooLong) = fits × (longest_packet < length s)
Writes fits s (Err Memory) = fits × (length s ≤ longest_packet)

-- what a writer made is the body of this part, of one that fits; otherwise memory may have run out
abbrev pub WritesPart : PartLayout → Piece → Result (List ℕ) LayoutFault → Type 0
WritesPart l q (Ok o) = PieceFits l q × (o ≡ body_as l q)
WritesPart l q (Err Unfit) = ¬ PieceFits l q
WritesPart l q (Err TooLong) = ⊥
WritesPart l q (Err Memory) = PieceFits l q
