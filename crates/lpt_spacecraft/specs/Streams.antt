-- What the spacecraft's end makes of a stream.
use Rattle.std.specs.Prelude.{◌≡◌, ◌⊎◌, ◌-◌, ◌^◌, ◌<◌, ◌≤◌, ◌++◌, ℕ, Bool, true, false, List, [], ◌∷◌, length, Option, Some, None, Result, Ok, Err, option_to_list}
use Rattle.std.specs.List.{AllByRecursion}
use Rattle.std.specs.Io.KnownBytes.{Appends, Consumes, IsAtEnd}
use Rattle.lpt_memory.specs.Memories.{Contents}
use Rattle.lpt_jobs.specs.Jobs.{jobs_numbered}
use Rattle.lpt_jobs.specs.declared.job.Job.{Job}
use Rattle.lpt_jobs.specs.declared.job.Job.TheVariants.{Waiting}
use Rattle.lpt_node.specs.Nodes.{NodeData}
use Rattle.lpt_text.specs.Streams.{AppendsPart}
use Rattle.lpt_text.specs.declared.fault.StreamFault.{StreamFault}
use Rattle.lpt_text.specs.declared.fault.StreamFault.TheVariants as faults
use Rattle.lpt_stream.specs.Pieces.{is_awaited, piece_by, up_to_limit}
use Rattle.lpt_stream.specs.Streams.{all_octets, length_at}
use Rattle.lpt_stream.specs.declared.cut.Cut.TheVariants.{Resumed}
use Rattle.lpt_spacecraft.specs.Flights.{FlightEvent, Flight, Made, dues_of, inputs_of, new_flight, inputs_served, stretches_of}
use Rattle.lpt_spacecraft.specs.Serving.{Onboard}
use Rattle.lpt_spacecraft.specs.Stretches.{is_taken, stretch_octets, IsCutInto}
use Rattle.lpt_spacecraft.specs.Telling.{Hears}
use Rattle.lpt_spacecraft.specs.declared.pace.PaceCourse.{PaceCourse}
use Rattle.lpt_spacecraft.specs.declared.pace.Pace.{Pace}
use Rattle.lpt_spacecraft.specs.declared.passing.Passing.{Passing}
use Rattle.lpt_spacecraft.specs.declared.spacecraft.Spacecraft.{Spacecraft}
use Rattle.lpt_spacecraft.specs.declared.stop.Stop.{Stop}
use Rattle.lpt_spacecraft.specs.declared.stop.Stop.TheVariants.{End, Cut, Stray}
use Rattle.lpt_spacecraft.specs.declared.told.Told.{Told}

-- ---- one call

-- what changes of a spacecraft
abbrev pub onboard : Spacecraft → Onboard
onboard s = record { node = s.node.at; memories = s.memories }

-- nothing waits at an end
abbrev pub IsIdle : Spacecraft → Type 0
IsIdle s = s.node.at.jobs.jobs ≡ []

-- what waits, by what was released
abbrev pub WaitsFor : Option (List ℕ) → List Job → Type 0
WaitsFor None js = js ≡ []
WaitsFor (Some m) js = js ≡ Waiting m ∷ []

-- a node came to that, its memories are as they were, and what it made was written
abbrev pub Sends : NodeData × List (List ℕ) → (s t : Spacecraft) → (old new : Option (List ℕ)) →
    Type 0
Sends x s t old new =
    (t.node.at ≡ x.0) × (t.memories ≡ s.memories) × Appends old new (all_octets x.1)

-- an end came to that, and what it made was written
abbrev pub Writes : Onboard × List (List ℕ) → Spacecraft → (old new : Option (List ℕ)) → Type 0
Writes x s old new = (onboard s ≡ x.0) × Appends old new (all_octets x.1)

-- the memories are as before or as after that, and a front part of what it makes was written
abbrev pub Breaks : (before : Contents) → Onboard × List (List ℕ) → (now : Contents)
    → (old new : Option (List ℕ)) → Type 0
Breaks before x now old new =
    ((now ≡ before) ⊎ (now ≡ x.0.memories)) × AppendsPart old new (all_octets x.1)

-- ---- an end as a stream goes on

-- the end, and the names that it has used
abbrev pub flight_of : Spacecraft → PaceCourse → Flight
flight_of s q = record { end = onboard s; reuse = q.pace.reuse; uses = q.uses.items }

-- the end, and what it made
abbrev pub plain : Made → Onboard × List (List ℕ)
plain x = (x.flight.end, x.packets)

-- it came to that, what it made was written, and what there is to tell was told
pub record Flies (x : Made) (s : Spacecraft) (q : PaceCourse) (old new : Option (List ℕ))
    (had has : Option (List Told)) : Type 0 where
  pub flight : flight_of s q ≡ x.flight
  pub written : Appends old new (all_octets x.packets)
  pub told : Hears had has x.told

-- ---- a stream

-- what these events make of a spacecraft at this pace
abbrev pub served_by : Pace → Spacecraft → List FlightEvent → Made
served_by pace s events =
    inputs_served s.config (new_flight pace.reuse (onboard s)) (inputs_of pace.every 0 0 events)

-- The clock answered so, one answer after the other, if it is asked; if it isn't, no tick is
-- due.
abbrev pub Answers : (is_asked : Bool) → (before after : Option (List ℕ)) → List ℕ → Type 0
Answers true before after dues = Consumes before after dues
Answers false before after dues = (after ≡ before) × AllByRecursion (λ n. n ≡ 0) dues

-- octets were read, and cut into events and a rest of which this holds; those that are lost were
-- read behind them
abbrev pub ReadsCut : Passing → (before after : Option (List ℕ)) → (lost : List ℕ)
    → (List FlightEvent → List ℕ → Type 0) → Type 0
ReadsCut passing before after lost P =
    (stream : List ℕ) × (events : List FlightEvent) × (rest : List ℕ)
    × Consumes before after (stream ++ lost) × IsCutInto passing stream (stretches_of events) rest
    × P events rest

-- how many octets events have
abbrev pub length_of : List FlightEvent → ℕ
length_of events = length (stretch_octets (stretches_of events))

-- in step no piece is in front that is taken, whatever comes behind these octets
abbrev pub IsNotTaken : Passing → (rest : List ℕ) → (after : Option (List ℕ)) → Type 0
IsNotTaken passing rest after =
    (more : List ℕ) → (IsAtEnd after → more ≡ [])
    → is_taken passing (piece_by (Resumed passing.longest) true (rest ++ more)).kind
    (piece_by (Resumed passing.longest) true (rest ++ more)).octets
    ≡ false

-- Work stops there, behind so many octets and before this rest: at the stream's end; or there in a
-- packet, of which less came than its header says, as far as that has come; or before what is no
-- packet, if that isn't passed over. It is told how long the packet would be.
abbrev pub StopsAt : Passing → Stop → (len : ℕ) → (rest : List ℕ) → (after : Option (List ℕ))
    → Type 0
StopsAt passing End len rest after = (rest ≡ []) × IsAtEnd after
StopsAt passing (Cut place said) len rest after =
    (place ≡ up_to_limit len) × (said ≡ length_at rest) × (0 < length rest)
    × (is_awaited passing.longest rest ≡ true) × IsAtEnd after
StopsAt passing (Stray place said) len rest after =
    (place ≡ up_to_limit len) × (said ≡ length_at rest) × (passing.is_on ≡ false)
    × IsNotTaken passing rest after

-- all of these were taken, what they make was written, and what they tell was told; the clock
-- answered so before each packet
pub record Serves (pace : Pace) (s t : Spacecraft) (old new asked answered : Option (List ℕ))
    (had has : Option (List Told)) (events : List FlightEvent) : Type 0 where
  pub writes : Writes (plain (served_by pace s events)) t old new
  pub told : Hears had has (served_by pace s events).told
  pub answers : Answers pace.clocked asked answered (dues_of events)

-- The events before the last were taken, and what they tell was told; what all make was written in
-- part; the memories are as before the last or as it leaves them. Or there is none at which work
-- broke off.
pub record BreaksOff (pace : Pace) (s t : Spacecraft) (old new asked answered : Option (List ℕ))
    (had has : Option (List Told)) (events : List FlightEvent) : Type 0 where
  pub taken : List FlightEvent
  pub last : Option FlightEvent
  pub are : events ≡ taken ++ option_to_list last
  pub breaks : Breaks (served_by pace s taken).flight.end.memories
      (plain (served_by pace s events)) t.memories old new
  pub told : Hears had has (served_by pace s taken).told
  pub answers : Answers pace.clocked asked answered (dues_of events)

-- How work on a stream ends. Ok: where it stops, all events before that were taken. Read: the same,
-- and no more was read. Write, Memory: it broke off; octets that found no memory are lost.
abbrev pub ServesTo : Pace → Result Stop StreamFault → (s t : Spacecraft)
    → (before after old new asked answered : Option (List ℕ)) → (had has : Option (List Told))
    → Type 0
ServesTo pace (Ok stop) s t before after old new asked answered had has =
    ReadsCut pace.passing before after [] (λ events rest.
    StopsAt pace.passing stop (length_of events) rest after
    × Serves pace s t old new asked answered had has events)
ServesTo pace (Err faults.Read) s t before after old new asked answered had has =
    ReadsCut pace.passing before after [] (λ events rest.
    Serves pace s t old new asked answered had has events)
ServesTo pace (Err faults.Write) s t before after old new asked answered had has =
    ReadsCut pace.passing before after [] (λ events rest.
    BreaksOff pace s t old new asked answered had has events)
ServesTo pace (Err faults.Memory) s t before after old new asked answered had has =
    (lost : List ℕ)
    × ReadsCut pace.passing before after lost (λ events rest.
    BreaksOff pace s t old new asked answered had has events)

-- 2^64 - 1 packets and runs were read, or as many requests released, or octets passed over
abbrev pub IsEndless : Passing → Spacecraft → (before after : Option (List ℕ)) → Type 0
IsEndless passing t before after =
    ReadsCut passing before after [] (λ events rest. length events ≡ 2 ^ 64 - 1)
    ⊎ ((jobs_numbered t.node.at.jobs ≡ 2 ^ 64 - 1)
    ⊎ ((octets : List ℕ) × Consumes before after octets × (2 ^ 64 - 1 ≤ length octets)))
