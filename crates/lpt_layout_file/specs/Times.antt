-- How the time of telemetry is laid out.
use Rattle.std.specs.Prelude.{ℕ, ◌-◌, ◌==◌, ◌&&◌, nat_le, Bool, true, false, if◌then◌else◌, List, [], ◌∷◌, Option, Some, None, codes}
use Rattle.toml_datetime.specs.declared.datetime.Date.{Date}
use Rattle.toml_datetime.specs.declared.datetime.Datetime.{Datetime}
use Rattle.toml_datetime.specs.declared.datetime.Time.{Time}
use Rattle.toml_datetime.specs.Parse.{parse_datetime}
use Rattle.toml.specs.Data.{Data, as_datetime, as_str, Members, get_member}
use Rattle.lpt_memory.specs.Fields.{◌>>=◌}
use Rattle.lpt_settings.specs.Numbers.{number_in}
use Rattle.lpt_carried.specs.declared.code.Submillisecond.{Submillisecond}
use Rattle.lpt_carried.specs.declared.code.Submillisecond.TheVariants.{Absent, Microseconds, Picoseconds}
use Rattle.lpt_carried.specs.declared.code.TimeCode.{TimeCode}
use Rattle.lpt_carried.specs.declared.code.TimeFields.{TimeFields}
use Rattle.lpt_carried.specs.declared.code.TimeFields.TheVariants.{Unsegmented, DaySegmented}
use Rattle.lpt_carried.specs.Codes.{code_octets}
use Rattle.lpt_carried.specs.Times.{day_number}
use Rattle.lpt_layout_file.specs.declared.times.TimeField.{TimeField}

-- so many octets, of which nothing more is known
abbrev pub octets_alone : ℕ → TimeField
octets_alone n = record { octets = n; code = None }

-- ---- the code

-- a time by a code, since the epoch of the standard
abbrev pub code_of : (preamble : Bool) → TimeFields → TimeCode
code_of preamble fields = record { epoch = None; preamble = preamble; fields = fields }

abbrev pub time_coded : (preamble : Bool) → TimeFields → TimeField
time_coded preamble fields = record {
  octets = code_octets (code_of preamble fields);
  code = Some (code_of preamble fields);
}

-- what a name ends with: ` p` if a preamble field is in front
abbrev pub preamble_in : List ℕ → Option Bool
preamble_in [] = Some false
preamble_in (s ∷ p ∷ []) = if s == 32 && p == 112 then Some true else None
preamble_in _ = None

-- a time of so many octets of seconds, by a digit from 1 to 4, and of parts of one, by a digit from
-- 0 to 3
abbrev pub time_counted : (preamble : Bool) → (coarse fine : ℕ) → Option TimeField
time_counted preamble coarse fine =
    if (nat_le 49 coarse && nat_le coarse 52) && (nat_le 48 fine && nat_le fine 51)
    then Some (time_coded preamble (Unsegmented (coarse - 48) (fine - 48)))
    else None

-- what is said behind the word `cuc`: two digits
abbrev pub counts_in : List ℕ → Option TimeField
counts_in (c ∷ s ∷ f ∷ rest) =
    if s == 32 then (preamble_in rest >>= λ p. time_counted p c f) else None
counts_in _ = None

-- behind the bits of days: ` us`, ` ps` or nothing for what stands behind the milliseconds
abbrev pub time_segmented : (long : Bool) → Submillisecond → List ℕ → Option TimeField
time_segmented long parts rest =
    preamble_in rest >>= λ p. Some (time_coded p (DaySegmented long parts))

abbrev pub parts_in : (long : Bool) → List ℕ → Option TimeField
parts_in long (s ∷ u ∷ t ∷ rest) =
    if s == 32 && u == 117 && t == 115 then time_segmented long Microseconds rest
    else if s == 32 && u == 112 && t == 115 then time_segmented long Picoseconds rest else None
parts_in long rest = time_segmented long Absent rest

-- behind the word `cds`: 16 or 24, the bits of days
abbrev pub days_in : List ℕ → Option TimeField
days_in (a ∷ b ∷ rest) =
    if a == 49 && b == 54 then parts_in false rest
    else if a == 50 && b == 52 then parts_in true rest else None
days_in _ = None

-- a code's name, as `cuc 4 3`, `cuc 4 3 p`, `cds 16` or `cds 24 us p`
abbrev pub code_in : List ℕ → Option TimeField
code_in (c ∷ u ∷ d ∷ s ∷ rest) =
    if c == 99 && u == 117 && d == 99 && s == 32 then counts_in rest
    else if c == 99 && u == 100 && d == 115 && s == 32 then days_in rest else None
code_in _ = None

-- ---- the values of the keys

-- a time that a value says: the name of a code, or else how many octets
abbrev pub code_or : Option (List ℕ) → Option ℕ → Option TimeField
code_or (Some text) n = code_in text
code_or None n = n >>= λ n. Some (octets_alone n)

abbrev pub time_in : Data → Option TimeField
time_in d = code_or (as_str d) (number_in 0 16 d)

-- the same, or the profile's if there is none
abbrev pub time_or : Option Data → Option TimeField
time_or None = Some (octets_alone 4)
time_or (Some d) = time_in d

-- the number of a day that is said without a time of day
abbrev pub plain_day : Option Date → Option Time → Option ℕ
plain_day None time = None
plain_day (Some d) None = day_number d.year d.month d.day
plain_day (Some d) (Some t) = None

abbrev pub day_of : Datetime → Option ℕ
day_of when = plain_day when.date when.time

-- the number of the day that a value is: a date, or a text that is one
abbrev pub date_or : Option Datetime → Option (List ℕ) → Option ℕ
date_or (Some when) text = day_of when
date_or None None = None
date_or None (Some text) = parse_datetime text >>= day_of

abbrev pub day_in : Data → Option ℕ
day_in d = date_or (as_datetime d) (as_str d)

-- a time by a code since the beginning of a day
abbrev pub since : TimeField → Option TimeCode → Option ℕ → Option TimeField
since t None day = None
since t (Some c) None = None
since t (Some c) (Some day) = Some (record t { code = Some (record c { epoch = Some day }) })

-- the same since the day that a value is, if there is one
abbrev pub since_or : TimeField → Option Data → Option TimeField
since_or t None = Some t
since_or t (Some d) = since t t.code (day_in d)

-- the time of a table
abbrev pub time_at : Members → Option TimeField
time_at members =
    time_or (get_member (codes "time") members)
    >>= λ t. since_or t (get_member (codes "epoch") members)
