-- How packets are counted, and how far a clock goes.
use Rattle.std.specs.Prelude.{ℕ, ◌<◌, ◌≤◌, ◌^◌}

-- how many sequence counts there are: they have 14 bits, and 0 follows the greatest
abbrev pub sequence_counts : ℕ
sequence_counts = 16384

-- how many message type counters there are: they have 16 bits, and 0 follows the greatest
abbrev pub type_counters : ℕ
type_counters = 65536

-- the greatest value of a clock: it has 32 bits
abbrev pub greatest_clock : ℕ
greatest_clock = 4294967295

-- sequence count, message type counter and time are in their ranges
pub record AreCounts (count counter time : ℕ) : Type 0 where
  pub count_fits : count ≤ 16383
  pub counter_fits : counter < 65536
  pub time_fits : time < 2 ^ 32
