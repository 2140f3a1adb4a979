-- The messages of a stream.
use Rattle.std.specs.Prelude.{◌≡◌, List, ℕ, Ok}
use Rattle.std.specs.List.{AllByRecursion}
use Rattle.lpt_packet.specs.Packets.{Fields, APacket}
use Rattle.lpt_layout.specs.Packets.{verdict_as}
use Rattle.lpt_carried.specs.Carried.{kind_to}
use Rattle.lpt_split.specs.declared.writing.Writing.{Writing}

-- octets are a packet of the layout and the direction
abbrev pub IsMessage : Writing → List ℕ → Type 0
IsMessage w m =
    (f : Fields) × (verdict_as w.layout.has_checksum m ≡ Ok (APacket f))
    × (f.kind ≡ kind_to w.direction)

-- each of them is
abbrev pub AreMessages : Writing → List (List ℕ) → Type 0
AreMessages w ms = AllByRecursion (IsMessage w) ms
