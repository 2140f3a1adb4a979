-- A spacecraft that ticks also while nothing comes, and how a stream is handed over to it.
use Rattle.std.specs.Prelude.{◌≡◌, ◌⊎◌, ◌-◌, ◌^◌, ◌+◌, ◌≤◌, ℕ, Bool, List, [], ◌∷◌, ◌++◌, length, Option, Some, None, Result, Ok, Err, option_to_list, ⊤}
use Rattle.std.specs.Io.KnownBytes.{Consumes}
use Rattle.lpt_jobs.specs.Jobs.{jobs_numbered}
use Rattle.lpt_text.specs.declared.fault.StreamFault.{StreamFault}
use Rattle.lpt_text.specs.declared.fault.StreamFault.TheVariants as faults
use Rattle.lpt_stream.specs.Pieces.{up_to_limit}
use Rattle.lpt_spacecraft.specs.Flights.{Astray, Input, Made, came_with, clock_ticks, counted_on, new_flight, inputs_served}
use Rattle.lpt_spacecraft.specs.Streams.{onboard, plain, Breaks, StopsAt, Writes}
use Rattle.lpt_spacecraft.specs.Stretches.{Stretch, Framed, Passed, octets_of, stretch_octets, IsCutInto}
use Rattle.lpt_spacecraft.specs.Telling.{Hears}
use Rattle.lpt_spacecraft.specs.declared.inlet.Happening.{Happening}
use Rattle.lpt_spacecraft.specs.declared.inlet.Happening.TheVariants as happens
use Rattle.lpt_spacecraft.specs.declared.pace.Pace.{Pace}
use Rattle.lpt_spacecraft.specs.declared.passing.Passing.{Passing}
use Rattle.lpt_spacecraft.specs.declared.spacecraft.Spacecraft.{Spacecraft}
use Rattle.lpt_spacecraft.specs.declared.stop.Stop.{Stop}
use Rattle.lpt_spacecraft.specs.declared.told.Told.{Told}

-- what was given or handed over, if that is known, grows by these
abbrev pub Gains : (old new : Option (List Happening)) → List Happening → Type 0
Gains None new xs = ⊤
Gains (Some ys) None xs = ⊥
Gains (Some ys) (Some zs) xs = zs ≡ ys ++ xs

-- ---- what a spacecraft makes of what happens

-- a turn of a spacecraft that waits: so many ticks are due by the clock, and then a packet comes,
-- or nothing; or octets at a place are passed over
pub data WaitTurn : Type 0 where
  Heeds : (due : ℕ) → (octets : List ℕ) → WaitTurn
  Idles : (due : ℕ) → WaitTurn
  Skips : (place len : ℕ) → WaitTurn

-- what was given then
abbrev pub given_as : WaitTurn → Happening
given_as (Heeds due b) = happens.Packet b
given_as (Idles due) = happens.Nothing
given_as (Skips place len) = happens.Skipped place len

abbrev pub givens : List WaitTurn → List Happening
givens [] = []
givens (x ∷ xs) = given_as x ∷ givens xs

-- how many ticks are due then, in front of those at other turns
abbrev pub due_at : WaitTurn → List ℕ → List ℕ
due_at (Heeds due b) ns = due ∷ ns
due_at (Idles due) ns = due ∷ ns
due_at (Skips place len) ns = ns

abbrev pub dues_at : List WaitTurn → List ℕ
dues_at [] = []
dues_at (x ∷ xs) = due_at x (dues_at xs)

-- what comes to the end then: ticks, and the packet
abbrev pub inputs_at : (every since : ℕ) → WaitTurn → List Input
inputs_at every since (Heeds due b) = clock_ticks due ++ came_with every since b
inputs_at every since (Idles due) = clock_ticks due
inputs_at every since (Skips place len) = Astray place len ∷ []

-- how many packets came since the last tick by packets, with it
abbrev pub since_at : (every since : ℕ) → WaitTurn → ℕ
since_at every since (Heeds due b) = counted_on every since
since_at every since (Idles due) = since
since_at every since (Skips place len) = since

-- what comes with all of them
abbrev pub turns_bring : (every since : ℕ) → List WaitTurn → List Input
turns_bring every since [] = []
turns_bring every since (x ∷ xs) =
    inputs_at every since x ++ turns_bring every (since_at every since x) xs

-- what these turns make of a spacecraft at this pace
abbrev pub made_at : Pace → Spacecraft → List WaitTurn → Made
made_at pace s turns =
    inputs_served s.config (new_flight pace.reuse (onboard s)) (turns_bring pace.every 0 turns)

-- all turns were taken, what they make was written, and what they tell was told; the clock answered
-- so at each
pub record Attends (pace : Pace) (s t : Spacecraft) (old new asked answered : Option (List ℕ))
    (had has : Option (List Told)) (turns : List WaitTurn) : Type 0 where
  pub writes : Writes (plain (made_at pace s turns)) t old new
  pub told : Hears had has (made_at pace s turns).told
  pub answers : Consumes asked answered (dues_at turns)

-- The turns before the last were taken, and what they tell was told; what all make was written in
-- part; the memories are as before the last or as it leaves them. Or there is none at which work
-- broke off.
pub record Falters (pace : Pace) (s t : Spacecraft) (old new asked answered : Option (List ℕ))
    (had has : Option (List Told)) (turns : List WaitTurn) : Type 0 where
  pub before : List WaitTurn
  pub last : Option WaitTurn
  pub are : turns ≡ before ++ option_to_list last
  pub breaks : Breaks (made_at pace s before).flight.end.memories (plain (made_at pace s turns))
      t.memories old new
  pub told : Hears had has (made_at pace s before).told
  pub answers : Consumes asked answered (dues_at turns)

-- How work ends on what is given. Ok: behind the end that was given, all turns before that were
-- taken. Read: the same, and no more was given. Write, Memory: it broke off.
abbrev pub AttendsTo : Pace → Result Stop StreamFault → (s t : Spacecraft)
    → (was gave : Option (List Happening)) → (old new asked answered : Option (List ℕ))
    → (had has : Option (List Told)) → Type 0
AttendsTo pace (Ok stop) s t was gave old new asked answered had has =
    (turns : List WaitTurn) × Gains was gave (givens turns ++ happens.End stop ∷ [])
    × Attends pace s t old new asked answered had has turns
AttendsTo pace (Err faults.Read) s t was gave old new asked answered had has =
    (turns : List WaitTurn) × Gains was gave (givens turns)
    × Attends pace s t old new asked answered had has turns
AttendsTo pace (Err faults.Write) s t was gave old new asked answered had has =
    (turns : List WaitTurn) × Gains was gave (givens turns)
    × Falters pace s t old new asked answered had has turns
AttendsTo pace (Err faults.Memory) s t was gave old new asked answered had has =
    (turns : List WaitTurn) × Gains was gave (givens turns)
    × Falters pace s t old new asked answered had has turns

-- 2^64 - 1 things were given, or as many requests released
abbrev pub IsWithoutEnd : Spacecraft → (was gave : Option (List Happening)) → Type 0
IsWithoutEnd t was gave =
    ((turns : List WaitTurn) × Gains was gave (givens turns) × (length turns ≡ 2 ^ 64 - 1))
    ⊎ (jobs_numbered t.node.at.jobs ≡ 2 ^ 64 - 1)

-- ---- a stream that is handed over

-- a stretch of a stream at a place, as it is handed over
abbrev pub handed_as : (place : ℕ) → Stretch → Happening
handed_as place (Framed b) = happens.Packet b
handed_as place (Passed b) = happens.Skipped (up_to_limit place) (length b)

-- all of them, from a place on
abbrev pub handed_from : (place : ℕ) → List Stretch → List Happening
handed_from place [] = []
handed_from place (s ∷ ss) = handed_as place s ∷ handed_from (place + length (octets_of s)) ss

-- Octets were read, and cut into stretches, which were handed over, and a rest, of which this
-- holds; those that are lost were read behind it.
pub record HandsFront (passing : Passing) (before after : Option (List ℕ))
    (had has : Option (List Happening)) (lost : List ℕ) (P : (len : ℕ) → (rest : List ℕ) → Type 0) :
    Type 0 where
  pub stream : List ℕ
  pub stretches : List Stretch
  pub rest : List ℕ
  pub consumed : Consumes before after (stream ++ lost)
  pub cut : IsCutInto passing stream stretches rest
  pub gains : Gains had has (handed_from 0 stretches)
  pub holds : P (length (stretch_octets stretches)) rest

-- How the handing over of a stream ends. Some: where it stops, all stretches before that were
-- handed over. None, Read: those that were cut off were. Memory: the same, and octets that found no
-- memory are lost.
abbrev pub HandsOver : Passing → Result (Option Stop) StreamFault
    → (before after : Option (List ℕ)) → (had has : Option (List Happening)) → Type 0
HandsOver passing (Ok (Some stop)) before after had has =
    HandsFront passing before after had has [] (λ len rest. StopsAt passing stop len rest after)
HandsOver passing (Ok None) before after had has =
    HandsFront passing before after had has [] (λ _ _. Unit)
HandsOver passing (Err faults.Read) before after had has =
    HandsFront passing before after had has [] (λ _ _. Unit)
HandsOver passing (Err faults.Write) before after had has = ⊥
HandsOver passing (Err faults.Memory) before after had has =
    (lost : List ℕ) × HandsFront passing before after had has lost (λ _ _. Unit)

-- a fault of work that writes nothing
abbrev pub unwritten_fault : StreamFault → StreamFault
unwritten_fault faults.Read = faults.Read
unwritten_fault faults.Write = faults.Memory
unwritten_fault faults.Memory = faults.Memory

-- 2^64 - 1 stretches were read, or so many octets passed over
abbrev pub IsUnending : Passing → (before after : Option (List ℕ)) → Type 0
IsUnending passing before after =
    ((stream : List ℕ) × (stretches : List Stretch) × (rest : List ℕ)
    × Consumes before after stream × IsCutInto passing stream stretches rest
    × (length stretches ≡ 2 ^ 64 - 1))
    ⊎ ((octets : List ℕ) × Consumes before after octets × (2 ^ 64 - 1 ≤ length octets))
