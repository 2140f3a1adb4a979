-- The ranges of a packet's fields.
use Rattle.std.specs.Prelude.{ℕ, ◌≤◌, List, length}
use Rattle.lpt_packet.specs.Sizes.{longest_field}

-- APID 2047 is the idle packet's; a count has 14 bits; a packet is no longer than the longest
pub record InRange (apid count : ℕ) (field : List ℕ) : Type 0 where
  pub apid_fits : apid ≤ 2046
  pub count_fits : count ≤ 16383
  pub field_fits : length field ≤ longest_field
