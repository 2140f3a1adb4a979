-- What two ends and the link between them can do.
use Rattle.std.specs.Prelude.{ℕ, ◌+◌, ◌-◌, ◌<◌, List, Option, None, Some, ⊤}
use Rattle.lpt_packet.specs.declared.direction.Direction.{Direction}
use Rattle.lpt_packet.specs.Names.{IsName, Name}
use Rattle.lpt_packet.specs.Numbers.{IsOctets}
use Rattle.lpt_pus.specs.declared.failure_code.FailureCode.{FailureCode}
use Rattle.lpt_execution.specs.declared.ending.Ending.{Ending}
use Rattle.lpt_execution.specs.declared.ending.Ending.TheVariants.{Silent, Refused}
use Rattle.lpt_events.specs.declared.config.Config.{Config}
use Rattle.lpt_events.specs.declared.event.Event.{Event}
use Rattle.lpt_events.specs.declared.event.Event.TheVariants as event
use Rattle.lpt_events.specs.declared.lane.Lane.{Lane}
use Rattle.lpt_events.specs.declared.side.Side.{Side}
use Rattle.lpt_events.specs.declared.worker.Worker.{Worker}

-- ---- clocks and limits

-- the limits of one end: the timeout in ticks, how many receptions may be open, and how many
-- outgoing transactions
pub record Limits : Type 0 where
  pub timeout : ℕ
  pub receptions : ℕ
  pub outgoing : ℕ

-- those of a configuration
abbrev pub limits_of : Config → Limits
limits_of c =
    record { timeout = c.timeout; receptions = c.receptions; outgoing = c.outgoing }

-- a configuration with these
abbrev pub with_limits : Limits → Config → Config
with_limits l c =
    record c { timeout = l.timeout; receptions = l.receptions; outgoing = l.outgoing }

-- what an end sets: its clock goes one tick on, or so many back; or it has these limits from now on
pub data Setting : Type 0 where
  On : Setting
  Back : (ticks : ℕ) → Setting
  Within : Limits → Setting

-- a clock after that
abbrev pub clock_turned : Setting → ℕ → ℕ
clock_turned On clock = clock + 1
clock_turned (Back n) clock = clock - n
clock_turned (Within l) clock = clock

-- a tick of the past after that: it goes back with the clock
abbrev pub past_turned : Setting → ℕ → ℕ
past_turned On tick = tick
past_turned (Back n) tick = tick - n
past_turned (Within l) tick = tick

-- limits after that
abbrev pub limits_set : Setting → Limits → Limits
limits_set On before = before
limits_set (Back n) before = before
limits_set (Within l) before = l

-- ---- requests

-- how the oldest request leaves the queue: it is executed, it is refused with this failure code, or
-- it is dropped
pub data Leaving : Type 0 where
  Execute : Leaving
  Refuse : FailureCode → Leaving
  Drop : Leaving

-- how one ends that leaves so, if its execution would end like this: of one that is dropped nothing
-- is told
abbrev pub ending_by : Leaving → Ending → Ending
ending_by Execute end = end
ending_by (Refuse code) end = Refused code
ending_by Drop end = Silent

-- ---- acts

-- Each is the event of its name. But a node may also set its clock back or have other limits, as a
-- `Tick`, the open reception of a name that is given may expire before its time, and the oldest
-- request may leave the queue without being executed.
pub data Act : Type 0 where
  Open : Direction → Name → (message : List ℕ) → Act
  Send : Direction → Name → (part : ℕ) → Act
  Plain : (source flags service subtype : ℕ) → (body : List ℕ) → Act
  Finish : Direction → Name → Act
  Lose : (number : ℕ) → Act
  Damage : Direction → (octets : List ℕ) → Act
  Take : Lane → (number : ℕ) → Act
  Deliver : Lane → Act
  Tick : Side → Setting → Act
  Expire : Side → Option Name → Act
  Claim : Worker → Act
  Commit : Worker → Act
  Apply : Leaving → Act
  Retire : Direction → Name → Act
  Restart : Side → Act

-- the act that an event is
abbrev pub act_of : Event → Act
act_of (event.Open d name m) = Open d name m
act_of (event.Send d name k) = Send d name k
act_of (event.Plain source flags service subtype body) = Plain source flags service subtype body
act_of (event.Finish d name) = Finish d name
act_of (event.Lose n) = Lose n
act_of (event.Damage d b) = Damage d b
act_of (event.Take l n) = Take l n
act_of (event.Deliver l) = Deliver l
act_of (event.Tick side) = Tick side On
act_of (event.Expire side) = Expire side None
act_of (event.Claim w) = Claim w
act_of (event.Commit w) = Commit w
act_of event.Apply = Apply Execute
act_of (event.Retire d name) = Retire d name
act_of (event.Restart side) = Restart side

-- the act's numbers are of their types
abbrev pub IsAct : Act → Type 0
IsAct (Open d name m) = IsName name × IsOctets m
IsAct (Send d name k) = IsName name × (k < 65536)
IsAct (Plain source flags service subtype body) =
    (source < 65536) × (flags < 16) × (service < 256) × (subtype < 256) × IsOctets body
IsAct (Finish d name) = IsName name
IsAct (Lose n) = ⊤
IsAct (Damage d b) = IsOctets b
IsAct (Take l n) = ⊤
IsAct (Deliver l) = ⊤
IsAct (Tick side turn) = ⊤
IsAct (Expire side which) = ⊤
IsAct (Claim w) = ⊤
IsAct (Commit w) = ⊤
IsAct (Apply how) = ⊤
IsAct (Retire d name) = IsName name
IsAct (Restart side) = ⊤
