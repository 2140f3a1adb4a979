-- The ranges of the fields that are narrower than their types.
use Rattle.std.specs.Prelude.{ℕ, ◌≤◌}

-- APID 2047 is the idle packet's; a count has 14 bits; there are four acknowledgement flags
pub record TcFits (apid count flags : ℕ) : Type 0 where
  pub apid_fits : apid ≤ 2046
  pub count_fits : count ≤ 16383
  pub flags_fit : flags ≤ 15

-- APID 2047 is the idle packet's; a count has 14 bits; the status has 4
pub record TmFits (apid count status : ℕ) : Type 0 where
  pub apid_fits : apid ≤ 2046
  pub count_fits : count ≤ 16383
  pub status_fits : status ≤ 15
