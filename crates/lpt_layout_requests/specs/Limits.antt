-- How many octets of an area a packet of a layout has room for.
use Rattle.std.specs.Prelude.{ℕ, ◌+◌, ◌-◌}
use Rattle.lpt_layout.specs.declared.layout.Layout.{Layout}
use Rattle.lpt_layout.specs.Layouts.{body_at, trailer}
use Rattle.lpt_memory.specs.Limits.{area_header}
use Rattle.lpt_packet.specs.Sizes.{longest_packet, primary_header}

-- what is left of the longest packet behind its headers, before its packet error control, and
-- besides the memory's identifier, the number of areas, and what an area has around its octets
abbrev pub area_room : Layout → ℕ
area_room l =
    longest_packet - (primary_header + body_at l + trailer l.has_checksum + 2 + area_header)
