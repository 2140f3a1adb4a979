-- A state as octets: its fields in their order. A number has its greatest octet first.
use Rattle.std.specs.Prelude.{ℕ, ◌+◌, ◌*◌, List, [], ◌∷◌, ◌++◌, length, codes}
use Rattle.std.specs.List.{flat_map}
use Rattle.lpt_events.specs.declared.config.Config.{Config}
use Rattle.lpt_events.specs.declared.side.Side.{Side}
use Rattle.lpt_events.specs.declared.side.Side.TheVariants.{Ground, Craft}
use Rattle.lpt_ledger.specs.declared.run.NameRun.{NameRun}
use Rattle.lpt_node.specs.Nodes.{NodeView}
use Rattle.lpt_packet.specs.Numbers.{be}
use Rattle.lpt_packet.specs.Packets.{octets_sealed}
use Rattle.lpt_part.specs.declared.mode.Mode.{Mode}
use Rattle.lpt_part.specs.declared.mode.Mode.TheVariants.{Any, Strict}
use Rattle.lpt_state.specs.Lastings.{Lasting, lasting_of}

-- four octets by which a state is known
abbrev pub tag : List ℕ
tag = codes "LPTS"

-- the version of this form
abbrev pub version : ℕ
version = 2

-- 0 for ground, 1 for the spacecraft
abbrev pub side_octet : Side → ℕ
side_octet Ground = 0
side_octet Craft = 1

-- 0 for any order, 1 for the strict one
abbrev pub mode_octet : Mode → ℕ
mode_octet Any = 0
mode_octet Strict = 1

-- what of the configuration an end is bound to, which isn't its limits nor its first clock: APID 16
-- bits, source 16, part size 32, mode 8
abbrev pub config_octets : Config → List ℕ
config_octets c = be c.apid 2 ++ be c.source 2 ++ be c.part_size 4 ++ mode_octet c.mode ∷ []

-- what stands first in each state of an end: tag 32 bits, version 8, side 8, and what it is bound
-- to
abbrev pub head_octets : Side → Config → List ℕ
head_octets side c = tag ++ version ∷ side_octet side ∷ [] ++ config_octets c

-- the numbers behind it: boot 64 bits, clock 32, how many runs were sent 64, and received 64
abbrev pub number_octets : (boot clock sent received : ℕ) → List ℕ
number_octets boot clock sent received = be boot 8 ++ be clock 4 ++ be sent 8 ++ be received 8

-- a run: source 16 bits, first identifier 16, last identifier 16
abbrev pub run_octets : NameRun → List ℕ
run_octets r = be r.source 2 ++ be r.first 2 ++ be r.last 2

-- runs, one behind the other
abbrev pub runs_octets : List NameRun → List ℕ
runs_octets rs = flat_map run_octets rs

-- the octets of what outlasts, as far as the checksum
abbrev pub front : Side → Config → Lasting → List ℕ
front side c s =
    head_octets side c ++ number_octets s.boot s.clock (length s.sent) (length s.received)
    ++ runs_octets s.sent ++ runs_octets s.received

-- the octets of what outlasts, with the checksum of all of them behind
unfoldable pub spelling : Side → Config → Lasting → List ℕ
spelling side c s = octets_sealed (front side c s)

-- the octets of an end's state
abbrev pub state_spelled : NodeView → List ℕ
state_spelled v = spelling v.side v.config (lasting_of v.at)

-- the same, as far as the checksum
abbrev pub state_unsealed : NodeView → List ℕ
state_unsealed v = front v.side v.config (lasting_of v.at)

-- how many octets stand around the runs, and how many a state with so many runs has
abbrev pub around : ℕ
around = 45

abbrev pub length_with : ℕ → ℕ
length_with runs = around + 6 * runs
