-- The requests of a stream.
use Rattle.std.specs.Prelude.{ℕ, false, if◌then◌else◌, List, is_some, None, Result, Ok, Err}
use Rattle.std.specs.Option.{option_map_or}
use Rattle.lpt_packet.specs.declared.direction.Direction.TheVariants.{Up}
use Rattle.lpt_packet.specs.declared.fault.PacketFault.{PacketFault}
use Rattle.lpt_packet.specs.declared.packet.PacketKind.TheVariants.{Tc}
use Rattle.lpt_packet.specs.Packets.{Sight, IdlePacket, APacket}
use Rattle.lpt_pus.specs.declared.fault.PusFault.{PusFault}
use Rattle.lpt_memory.specs.Fields.{front_long}
use Rattle.lpt_events.specs.Arrivals.{carried_kind}
use Rattle.lpt_script_text.specs.Areas.{areas_in}
use Rattle.lpt_layout.specs.declared.layout.Layout.{Layout}
use Rattle.lpt_layout.specs.Messages.{Said, message_verdict}
use Rattle.lpt_layout.specs.Packets.{verdict_as}
use Rattle.lpt_stream.specs.Pieces.{Piece}
use Rattle.lpt_outcomes.specs.declared.asked.Asked.{Asked}
use Rattle.lpt_outcomes.specs.declared.outcome.Outcome.{Outcome}
use Rattle.lpt_outcomes.specs.declared.passed.Beside.{Beside}
use Rattle.lpt_outcomes.specs.declared.passed.Beside.TheVariants.{Part, Foreign, Quiet}
use Rattle.lpt_outcomes.specs.Passing.{all_found}

-- before any report
abbrev pub nothing_told : Outcome
nothing_told = record { accepted = false; started = false; completed = false; failure = None }

-- a telecommand of this request ID
abbrev pub request_asked : (id : ℕ) → Said → Asked
request_asked id s = record {
  source = s.user;
  request = record { value = id };
  apid = s.apid;
  count = s.count;
  flags = s.flags;
  service = s.service;
  subtype = s.subtype;
  areas = areas_in Up s.service s.subtype s.body;
  outcome = nothing_told;
}

-- a packet that is read as a telecommand, or isn't: a part isn't a request, what it is a part of
-- may be one
abbrev pub asked_by : (id : ℕ) → Result Said PusFault → Result Asked Beside
asked_by id (Ok s) =
    if is_some (carried_kind Up s.service s.subtype) then Err Part else Ok (request_asked id s)
asked_by id (Err e) = Err Foreign

-- octets of this verdict
abbrev pub asked_as : Layout → (id : ℕ) → Result Sight PacketFault → Result Asked Beside
asked_as l id (Ok IdlePacket) = Err Quiet
asked_as l id (Ok (APacket f)) = asked_by id (message_verdict l Tc f)
asked_as l id (Err e) = Err Foreign

-- the request that a packet's octets are by this layout, or what they are beside: its request ID
-- are the first four of them
unfoldable pub request_in : Layout → List ℕ → Result Asked Beside
request_in l b =
    option_map_or (λ id. asked_as l id.0 (verdict_as l.has_checksum b)) (front_long b)
    (Err Foreign)

-- the requests of a stream of these pieces
abbrev pub requests_in : Layout → List Piece → List Asked
requests_in l pieces = all_found (request_in l) pieces
