-- The sizes of secondary headers, and of the longest bodies behind them, in octets.
use Rattle.std.specs.Prelude.{ℕ, ◌-◌}
use Rattle.lpt_packet.specs.Sizes.{longest_field}

-- a telecommand's secondary header
abbrev pub tc_header : ℕ
tc_header = 5

-- a telemetry packet's secondary header
abbrev pub tm_header : ℕ
tm_header = 11

-- the longest body of a telecommand
abbrev pub longest_tc_body : ℕ
longest_tc_body = longest_field - tc_header

-- the longest body of telemetry
abbrev pub longest_tm_body : ℕ
longest_tm_body = longest_field - tm_header
