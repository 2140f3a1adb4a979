-- The packets of requests to a memory, as a layout has them.
use Rattle.std.specs.Prelude.{◌≡◌, ◌⊎◌, ◌≤◌, ℕ, List, [], ◌∷◌, length, replicate, slice_index, Option, Some, None, Result, Ok, Err}
use Rattle.lpt_layout.specs.declared.layout.Layout.{Layout}
use Rattle.lpt_layout.specs.declared.width.Width.{Width}
use Rattle.lpt_layout.specs.declared.width.Width.TheVariants.{Absent}
use Rattle.lpt_layout.specs.Messages.{HeadFits, Said}
use Rattle.lpt_layout.specs.Writes.{Writes, octets_as}
use Rattle.lpt_memory.specs.declared.fault.MemoryFault.{MemoryFault}
use Rattle.lpt_memory.specs.declared.fault.MemoryFault.TheVariants.{Memory}
use Rattle.lpt_memory.specs.Seen.{body_of}
use Rattle.lpt_packet.specs.declared.packet.PacketKind.TheVariants.{Tc}
use Rattle.lpt_packet.specs.Sizes.{longest_packet}
use Rattle.lpt_requests.specs.declared.request.Request.{Request}
use Rattle.lpt_requests.specs.Packets.{next_count}
use Rattle.lpt_requests.specs.Requests.{request_fault, request_text, subtype_of}
use Rattle.lpt_layout_requests.specs.declared.fault.RequestFault.{RequestFault}
use Rattle.lpt_layout_requests.specs.declared.fault.RequestFault.TheVariants.{OfLayout, OfRequest}

-- ---- what a packet says

-- a source, if a field of this width is for it
abbrev pub source_in : Width → ℕ → ℕ
source_in Absent source = 0
source_in _ source = source

-- what a telecommand says, as a layout has it: time and spare octets are 0
abbrev pub command_said : Layout → (apid source count flags service subtype : ℕ) → List ℕ → Said
command_said l apid source count flags service subtype body = record {
  apid = apid;
  count = count;
  flags = flags;
  service = service;
  subtype = subtype;
  counter = 0;
  user = source_in l.user source;
  time = replicate l.time 0;
  spare = replicate l.spare 0;
  body = body;
}

-- the same of a request
abbrev pub request_said : Layout → (apid source count flags : ℕ) → Request → Said
request_said l apid source count flags r =
    command_said l apid source count flags 6 (subtype_of r) (request_text r)

-- the same of what stands in a packet of the profile
abbrev pub own_said : Layout → (apid source count flags : ℕ) → List ℕ → Said
own_said l apid source count flags own =
    command_said l apid source count flags (slice_index own 7) (slice_index own 8) (body_of own)

-- ---- one request

-- its packet
abbrev pub packet_as : Layout → (apid source count flags : ℕ) → Request → List ℕ
packet_as l apid source count flags r = octets_as l Tc (request_said l apid source count flags r)

-- its fields fit the layout
abbrev pub Fits : Layout → (apid source count flags : ℕ) → Request → Type 0
Fits l apid source count flags r = HeadFits l (request_said l apid source count flags r)

-- its packet can be made: it has no fault, its fields fit, and it is no longer than a packet may be
pub record IsMade (l : Layout) (apid source count flags : ℕ) (r : Request) : Type 0 where
  pub sound : request_fault r ≡ None
  pub fits : Fits l apid source count flags r
  pub short : length (packet_as l apid source count flags r) ≤ longest_packet

-- this is the fault, if there is one; otherwise memory ran out
abbrev pub IsFault : Option MemoryFault → MemoryFault → Type 0
IsFault (Some f) e = e ≡ f
IsFault None e = e ≡ Memory

-- what was written of a request: its packet, or why it wasn't. A fault of its own comes first
abbrev pub WritesRequest : Layout → (apid source count flags : ℕ) → Request
    → Result (List ℕ) RequestFault → Type 0
WritesRequest l apid source count flags r (Ok o) =
    IsMade l apid source count flags r × (o ≡ packet_as l apid source count flags r)
WritesRequest l apid source count flags r (Err (OfRequest e)) = IsFault (request_fault r) e
WritesRequest l apid source count flags r (Err (OfLayout e)) =
    (request_fault r ≡ None)
    × Writes (Fits l apid source count flags r) (packet_as l apid source count flags r) (Err e)

-- ---- requests

-- their packets, the first with this count
abbrev pub packets_as : Layout → (apid source count flags : ℕ) → List Request → List (List ℕ)
packets_as l apid source count flags [] = []
packets_as l apid source count flags (r ∷ rest) =
    packet_as l apid source count flags r
    ∷ packets_as l apid source (next_count count) flags rest

-- each of them can be made
abbrev pub AreMade : Layout → (apid source count flags : ℕ) → List Request → Type 0
AreMade l apid source count flags [] = Unit {0}
AreMade l apid source count flags (r ∷ rest) =
    IsMade l apid source count flags r × AreMade l apid source (next_count count) flags rest

-- this is why the first of them can't be made that can't
abbrev pub FirstFault : Layout → (apid source count flags : ℕ) → List Request → RequestFault
    → Type 0
FirstFault l apid source count flags [] e = ⊥
FirstFault l apid source count flags (r ∷ rest) e =
    WritesRequest l apid source count flags r (Err e)
    ⊎ (IsMade l apid source count flags r
    × FirstFault l apid source (next_count count) flags rest e)
