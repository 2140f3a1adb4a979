-- The sizes of a packet and of what stands around its data field, in octets.
use Rattle.std.specs.Prelude.{ℕ, ◌-◌}

-- the primary header
abbrev pub primary_header : ℕ
primary_header = 6

-- the packet error control
abbrev pub error_control : ℕ
error_control = 2

-- the longest packet
abbrev pub longest_packet : ℕ
longest_packet = 65542

-- the longest data field, without the packet error control
abbrev pub longest_field : ℕ
longest_field = longest_packet - primary_header - error_control
