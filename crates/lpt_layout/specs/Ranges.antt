-- What holds of a packet's fields, whether it has a packet error control or not.
use Rattle.std.specs.Prelude.{ℕ, ◌≤◌}

-- APID 2047 is the idle packet's; a count has 14 bits; a data field has at most 65,536 octets
pub record IsWithin (apid count len : ℕ) : Type 0 where
  pub apid_fits : apid ≤ 2046
  pub count_fits : count ≤ 16383
  pub field_fits : len ≤ 65536
