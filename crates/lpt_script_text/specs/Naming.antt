-- What is printed of the areas that octets name.
use Rattle.std.specs.Prelude.{ℕ, List, [], ◌∷◌, codes, Option, None, Result, Ok, Err}
use Rattle.std.specs.Option.{option_map_or}
use Rattle.std.specs.Fmt.{decimal}
use Rattle.lpt_packet.specs.declared.direction.Direction.TheVariants.{Up, Down}
use Rattle.lpt_packet.specs.declared.fault.PacketFault.{PacketFault}
use Rattle.lpt_packet.specs.declared.packet.PacketKind.{PacketKind}
use Rattle.lpt_packet.specs.declared.packet.PacketKind.TheVariants.{Tm, Tc}
use Rattle.lpt_packet.specs.Packets.{Fields, Sight, IdlePacket, APacket, verdict}
use Rattle.lpt_pus.specs.declared.fault.PusFault.{PusFault}
use Rattle.lpt_pus.specs.Commands.{Command, tc_verdict}
use Rattle.lpt_pus.specs.Telemetry.{Telemetry, tm_verdict}
use Rattle.lpt_script_text.specs.declared.areas.Areas.{Areas}
use Rattle.lpt_script_text.specs.Areas.{areas_in}
use Rattle.lpt_script_text.specs.Printing.{line_of}

-- the areas that a message of the memory service names: how many, and the first of them
abbrev pub areas_text : Areas → List ℕ
areas_text a =
    line_of (codes "memory" ∷ decimal a.memory ∷ codes "areas" ∷ decimal a.count
    ∷ codes "address" ∷ decimal a.address ∷ codes "length" ∷ decimal a.len ∷ [])

-- areas, if there are any
abbrev pub areas_line : Option Areas → List ℕ
areas_line a = option_map_or areas_text a []

-- those that a packet names that is read as a telecommand
abbrev pub areas_asked : Result Command PusFault → Option Areas
areas_asked (Ok c) = areas_in Up c.service c.subtype c.body
areas_asked (Err e) = None

-- or as telemetry
abbrev pub areas_reported : Result Telemetry PusFault → Option Areas
areas_reported (Ok t) = areas_in Down t.service t.subtype t.body
areas_reported (Err e) = None

-- a packet of this type
abbrev pub areas_typed : PacketKind → Fields → Option Areas
areas_typed Tc f = areas_asked (tc_verdict f)
areas_typed Tm f = areas_reported (tm_verdict f)

-- octets of this verdict
abbrev pub areas_seen : Result Sight PacketFault → Option Areas
areas_seen (Ok IdlePacket) = None
areas_seen (Ok (APacket f)) = areas_typed f.kind f
areas_seen (Err e) = None

-- those that octets name
abbrev pub areas_named : List ℕ → Option Areas
areas_named b = areas_seen (verdict b)
