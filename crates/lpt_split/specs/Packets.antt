-- The packets of a message's parts, as a layout has them.
use Rattle.std.specs.Prelude.{◌≡◌, ◌⊎◌, ◌<◌, ◌≤◌, ℕ, List, [], ◌∷◌, length, Result, Ok, Err}
use Rattle.lpt_events.specs.Arrivals.{part_subtype}
use Rattle.lpt_layout.specs.declared.fault.LayoutFault.{LayoutFault}
use Rattle.lpt_layout.specs.declared.fault.LayoutFault.TheVariants as layout_fault
use Rattle.lpt_layout.specs.Messages.{Said, HeadFits}
use Rattle.lpt_layout.specs.Parts.{PieceFits, body_as}
use Rattle.lpt_layout.specs.Writes.{octets_as}
use Rattle.lpt_carried.specs.Carried.{kind_to}
use Rattle.lpt_packet.specs.Sizes.{longest_packet}
use Rattle.lpt_part.specs.declared.kind.Kind.{Kind}
use Rattle.lpt_part.specs.Parts.{Piece, nth_part}
use Rattle.lpt_split.specs.declared.writing.Writing.{Writing}
use Rattle.lpt_split.specs.Splits.{next_count}

-- what the packet of a part of this kind says, of this sequence count and body
abbrev pub said_of : Writing → (count : ℕ) → Kind → List ℕ → Said
said_of w count kind body = record {
  apid = w.apid;
  count = count;
  flags = 0;
  service = 13;
  subtype = part_subtype w.direction kind;
  counter = 0;
  user = w.user;
  time = w.time.now;
  spare = w.spare.now;
  body = body;
}

-- that packet's octets
abbrev pub made_of : Writing → (count : ℕ) → Kind → List ℕ → List ℕ
made_of w count kind body =
    octets_as w.layout (kind_to w.direction) (said_of w count kind body)

-- the octets of a part's packet
abbrev pub packet_of : Writing → (count : ℕ) → Piece → List ℕ
packet_of w count q = made_of w count q.kind (body_as w.parts q)

-- its fields fit the layout
abbrev pub Fits : Writing → (count : ℕ) → Piece → Type 0
Fits w count q =
    PieceFits w.parts q × HeadFits w.layout (said_of w count q.kind (body_as w.parts q))

-- its packet can be made: they fit, and it is no longer than a packet may be
pub record IsMade (w : Writing) (count : ℕ) (q : Piece) : Type 0 where
  pub fits : Fits w count q
  pub short : length (packet_of w count q) ≤ longest_packet

-- why it wasn't: its fields don't fit; they do, and it is too long; or memory ran out
abbrev pub WhyNot : Writing → (count : ℕ) → Piece → LayoutFault → Type 0
WhyNot w count q layout_fault.Unfit = ¬ Fits w count q
WhyNot w count q layout_fault.TooLong =
    Fits w count q × (longest_packet < length (packet_of w count q))
WhyNot w count q layout_fault.Memory = Unit {0}

-- what was made of a part: its packet, or why it wasn't
abbrev pub MakesPart : Writing → (count : ℕ) → Piece → Result (List ℕ) LayoutFault → Type 0
MakesPart w count q (Ok o) = IsMade w count q × (o ≡ packet_of w count q)
MakesPart w count q (Err e) = WhyNot w count q e

-- part n of a message, which goes under this identifier
abbrev pub nth : Writing → (id : ℕ) → (m : List ℕ) → ℕ → Piece
nth w id m n = nth_part w.part_size id m n

-- the packets of these parts, of sequence counts from this one on
abbrev pub packets_of : Writing → (id : ℕ) → List ℕ → (count : ℕ) → List ℕ → List (List ℕ)
packets_of w id m count [] = []
packets_of w id m count (n ∷ ns) =
    packet_of w count (nth w id m n) ∷ packets_of w id m (next_count count) ns

-- each of them can be made
abbrev pub AreMade : Writing → (id : ℕ) → (m : List ℕ) → (count : ℕ) → List ℕ → Type 0
AreMade w id m count [] = Unit {0}
AreMade w id m count (n ∷ ns) =
    IsMade w count (nth w id m n) × AreMade w id m (next_count count) ns

-- this is why the first of these parts can't be made that can't
abbrev pub FirstFault : Writing → (id : ℕ) → (m : List ℕ) → (count : ℕ) → List ℕ → LayoutFault
    → Type 0
FirstFault w id m count [] e = ⊥
FirstFault w id m count (n ∷ ns) e =
    WhyNot w count (nth w id m n) e
    ⊎ (IsMade w count (nth w id m n) × FirstFault w id m (next_count count) ns e)
