-- Times as days of the calendar and times of day.
use Rattle.std.specs.Prelude.{ℕ, zero, suc, ◌+◌, ◌-◌, ◌*◌, ◌/◌, ◌%◌, ◌^◌, ◌≤◌, ◌==◌, ◌&&◌, min, nat_lt, nat_le, Bool, if◌then◌else◌, List, [], ◌∷◌, ◌++◌, length, take, drop, Option, Some, None, pos}
use Rattle.std.specs.Option.{option_and_then, option_map}
use Rattle.jiff_core.specs.Calendar.{day_count, days_in_month, days_in_year}
use Rattle.jiff_fmt.specs.Text.{pad2, pad4}
use Rattle.lpt_carried.specs.Codes.{code_octets, day_octets, epoch_in, lengths_fit, parts_in, places_of, preamble_octets}
use Rattle.lpt_carried.specs.declared.code.Submillisecond.{Submillisecond}
use Rattle.lpt_carried.specs.declared.code.TimeCode.{TimeCode}
use Rattle.lpt_carried.specs.declared.code.TimeFields.{TimeFields}
use Rattle.lpt_carried.specs.declared.code.TimeFields.TheVariants.{Unsegmented, DaySegmented}
use Rattle.lpt_carried.specs.declared.moment.Moment.{Moment}

-- ---- the calendar

-- Of stretches of these lengths, counted from number i on, the one in which a place lies, and the
-- place within it. Behind k of them nothing more is looked for.
unfoldable pub stretch_at : (length_of : ℕ → ℕ) → (k i place : ℕ) → ℕ × ℕ
stretch_at length_of zero i place = (i, place)
stretch_at length_of (suc k) i place =
    if nat_lt place (length_of i) then (i, place)
    else stretch_at length_of k (i + 1) (place - length_of i)

-- the year of a day behind 1 January 1900, and the day's place in it, from 0
abbrev pub year_at : ℕ → ℕ × ℕ
year_at day = stretch_at (λ y. days_in_year (pos y)) 8099 1900 day

-- the month of a day of a year, and the day's place in that, from 0
abbrev pub month_at : (year day : ℕ) → ℕ × ℕ
month_at year day = stretch_at (days_in_month (pos year)) 11 1 day

-- a day as 2026-11-27
abbrev pub date_of : (year month day : ℕ) → List ℕ
date_of year month day = pad4 year ++ 45 ∷ [] ++ pad2 month ++ 45 ∷ [] ++ pad2 day

abbrev pub date_in_year : (year day : ℕ) → List ℕ
date_in_year year day =
    date_of year (month_at year day).0 ((month_at year day).1 + 1)

abbrev pub date_text : ℕ → List ℕ
date_text day = date_in_year (year_at day).0 (year_at day).1

-- the last so many decimal digits of a number
unfoldable pub digits : (places n : ℕ) → List ℕ
digits zero n = []
digits (suc k) n = (48 + n / 10 ^ k % 10) ∷ digits k n

-- the minute of a day in which a second is: a leap second is the last minute's
abbrev pub minute_of : ℕ → ℕ
minute_of second = min (second / 60) 1439

-- a fraction of a second, in so many digits
abbrev pub fraction_text : (places fraction : ℕ) → List ℕ
fraction_text zero fraction = []
fraction_text (suc k) fraction = 46 ∷ digits (suc k) fraction

-- a day of the calendar and a time of day, as 2026-11-27T05:19:00.250
abbrev pub moment_text : Moment → List ℕ
moment_text m =
    date_text m.day ++ 84 ∷ digits 2 (minute_of m.second / 60)
    ++ 58 ∷ digits 2 (minute_of m.second % 60)
    ++ 58 ∷ digits 2 (m.second - 60 * minute_of m.second) ++ fraction_text m.places m.fraction

-- a day of the calendar from 1 January 1900 to 31 December 9999
abbrev pub is_day : (year month day : ℕ) → Bool
is_day year month day =
    (nat_le 1900 year && nat_le year 9999) && (nat_le 1 month && nat_le month 12)
    && (nat_le 1 day && nat_le day (days_in_month (pos year) month))

-- how many days it is behind 1 January 1900
abbrev pub day_number : (year month day : ℕ) → Option ℕ
day_number year month day =
    if is_day year month day
    then Some (day_count (pos year) month day - day_count (pos 1900) 1 1) else None

-- ---- the moment

-- the number that octets are, the greatest octet first
abbrev pub number_of : List ℕ → ℕ
number_of [] = 0
number_of (x ∷ xs) = x * 256 ^ length xs + number_of xs

-- 31 December 9999
abbrev pub last_day : ℕ
last_day = 2958463

-- a moment up to that day
abbrev pub known_moment : (day second places fraction : ℕ) → Option Moment
known_moment day second places fraction =
    if nat_lt last_day day then None
    else Some (record { day = day; second = second; places = places; fraction = fraction })

-- The moment so many seconds and parts of one behind the beginning of a day, of days of 86,400
-- seconds. Its fraction has three digits for each octet of parts, and is rounded down.
abbrev pub after_seconds : (epoch fine seconds parts : ℕ) → Option Moment
after_seconds epoch fine seconds parts =
    known_moment (epoch + seconds / 86400) (seconds % 86400) (3 * fine)
    (parts * 1000 ^ fine / 256 ^ fine)

-- The moment on a day so many days behind another, by the milliseconds of the day and the parts of
-- one. A day with a leap second has 86,401,000 of them, and none has more.
abbrev pub on_day : Submillisecond → (epoch days milliseconds parts : ℕ) → Option Moment
on_day s epoch days milliseconds parts =
    if nat_lt milliseconds 86401000 && nat_lt parts (parts_in s)
    then known_moment (epoch + days) (milliseconds / 1000) (3 + places_of s)
    (milliseconds % 1000 * parts_in s + parts) else None

-- the moment that octets behind a preamble say, since a day
abbrev pub moment_by : TimeFields → List ℕ → (epoch : ℕ) → Option Moment
moment_by (Unsegmented coarse fine) b epoch =
    after_seconds epoch fine (number_of (take coarse b)) (number_of (drop coarse b))
moment_by (DaySegmented long s) b epoch =
    on_day s epoch (number_of (take (day_octets long) b))
    (number_of (take 4 (drop (day_octets long) b)))
    (number_of (drop 4 (drop (day_octets long) b)))

-- the moment that octets say
abbrev pub moment_in : TimeCode → List ℕ → Option Moment
moment_in c b =
    if lengths_fit c.fields && (length b == code_octets c)
    then option_and_then (moment_by c.fields (drop (preamble_octets c.preamble) b))
    (epoch_in c (take (preamble_octets c.preamble) b)) else None

-- the text of the time that octets say
abbrev pub time_text : TimeCode → List ℕ → Option (List ℕ)
time_text c b = option_map moment_text (moment_in c b)

-- it is a moment up to the year 9999
pub record IsMoment (m : Moment) : Type 0 where
  pub day_fits : m.day ≤ last_day
  pub second_fits : m.second ≤ 86400
  pub places_fit : m.places ≤ 12
