-- How many memories and areas there are at most, and how many octets stand around areas.
use Rattle.std.specs.Prelude.{ℕ}

-- the most memories
abbrev pub memory_limit : ℕ
memory_limit = 16

-- the most octets of a memory
abbrev pub size_limit : ℕ
size_limit = 1048576

-- the most areas of a request
abbrev pub area_limit : ℕ
area_limit = 255

-- the octets of a load's packet, besides its areas
abbrev pub load_head : ℕ
load_head = 15

-- the octets of the packet that answers a dump, besides its areas
abbrev pub dump_head : ℕ
dump_head = 21

-- the octets of an area in both, besides those of the memory
abbrev pub area_header : ℕ
area_header = 8
