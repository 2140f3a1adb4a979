-- Reports of checks, area by area.
use Rattle.std.specs.Prelude.{ℕ, ◌+◌, ◌*◌, ◌==◌, nat_lt, if◌then◌else◌, List, length, slice_index, Result, Ok, Err}
use Rattle.lpt_packet.specs.Numbers.{word_at}
use Rattle.lpt_pus.specs.Numbers.{long_at}
use Rattle.lpt_c.specs.declared.checks.LptChecked.{LptChecked}
use Rattle.lpt_c.specs.Codes.{no_report, range}

-- the area that stands at a place of the body: start address 32 bits, length 16, checksum 16
abbrev pub checked_at : List ℕ → ℕ → LptChecked
checked_at body at = record {
  memory = slice_index body 0;
  areas = slice_index body 1;
  address = long_at body at;
  len = word_at body (at + 4);
  checksum = word_at body (at + 6);
}

-- the area of a number, from 0: a report has a memory identifier of 8 bits, the number of areas, of
-- 8, which isn't 0, so many areas of 8 octets, and nothing behind them
abbrev pub area_checked : List ℕ → ℕ → Result LptChecked ℕ
area_checked body k =
    if nat_lt (length body) 2 then Err no_report
    else if slice_index body 1 == 0 then Err no_report
    else if length body == 2 + 8 * slice_index body 1 then
    (if nat_lt k (slice_index body 1) then Ok (checked_at body (2 + 8 * k)) else Err range)
    else Err no_report
