-- The length of the packet that begins a stream.
use Rattle.std.specs.Prelude.{ℕ, ◌+◌, ◌/◌, ◌%◌, ◌==◌, nat_lt, if◌then◌else◌, List, length, slice_index}
use Rattle.lpt_packet.specs.Numbers.{word_at}
use Rattle.lpt_c.specs.Codes.{all_done, version, idle, more}

-- what begins the stream: a packet or an idle one, nothing known yet, or no packet
abbrev pub stream_code : List ℕ → ℕ
stream_code b =
    if length b == 0 then more
    else if slice_index b 0 / 32 == 0 then
    (if nat_lt (length b) 6 then more
    else if word_at b 0 % 2048 == 2047 then idle
    else all_done)
    else version

-- the length that is reported, if it is known
abbrev pub stream_length : List ℕ → ℕ → ℕ
stream_length b old =
    if slice_index b 0 / 32 == 0 then
    (if nat_lt (length b) 6 then old else 7 + word_at b 4)
    else old
