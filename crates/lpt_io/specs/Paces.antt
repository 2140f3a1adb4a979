-- How far a reading is, and how long it still takes.
use Rattle.std.specs.Prelude.{ℕ, ◌-◌, ◌*◌, ◌/◌, ◌==◌, nat_lt, if◌then◌else◌, Option, Some, None}

-- how many octets came in a second, by those that came in so many milliseconds
abbrev pub rate_of : (done millis : ℕ) → ℕ
rate_of done millis = done * 1000 / millis

-- in how many seconds the rest comes at this rate, if one is known
abbrev pub rest_at : (rate rest : ℕ) → Option ℕ
rest_at rate rest = if rate == 0 then None else Some (rest / rate)

-- how many seconds are left of a reading of so many octets, of which so many came in so many
-- milliseconds: it isn't said in the first two seconds
abbrev pub seconds_left : (done whole millis : ℕ) → Option ℕ
seconds_left done whole millis =
    if nat_lt millis 2000 then None else rest_at (rate_of done millis) (whole - done)

-- how many of a hundred parts came
abbrev pub percent : (done whole : ℕ) → ℕ
percent done whole = if whole == 0 then 100 else done * 100 / whole
