-- What ground hears of two ends apart, and what a pass leaves.
use Rattle.std.specs.Prelude.{◌≡◌, ◌⊎◌, ℕ, ◌+◌, ◌≤◌, ◌<◌, List, ◌++◌, length, take, drop, slice_get, Some}
use Rattle.lpt_packet.specs.declared.direction.Direction.TheVariants.{Up, Down}
use Rattle.lpt_packet.specs.Names.{Name}
use Rattle.lpt_pus.specs.Numbers.{long_at}
use Rattle.lpt_memory.specs.declared.request.AreaRange.{AreaRange}
use Rattle.lpt_memory.specs.Effects.{dump_body}
use Rattle.lpt_memory.specs.Meanings.{Dump, meaning}
use Rattle.lpt_memory.specs.Memories.{Contents, content_of, sizes_of}
use Rattle.lpt_verify.specs.declared.report.Report.{Report as Verification}
use Rattle.lpt_events.specs.Configs.{IsConfig}
use Rattle.lpt_events.specs.declared.config.Config.{Config}
use Rattle.lpt_execution.specs.Reporting.{request_source}
use Rattle.lpt_journal.specs.Jobs.{left_by}
use Rattle.lpt_apart.specs.Ends.{Log, Opened, Asked, Released, Pair, Move, Do, Open}
use Rattle.lpt_apart.specs.TwoEnds.{requests_executed, IsOnTheWay}
use Rattle.lpt_apart.specs.Moves.{came_to, CanMoveAll}
use Rattle.lpt_passes.specs.Alone.{IsNamed}
use Rattle.lpt_passes.specs.Images.{Image, AreTrueTo, IsLoaded, Stands}
use Rattle.lpt_passes.specs.Reported.{IsTelemetryDown, IsVerification}

-- ---- reports

-- a verification report that the spacecraft put out and that may be handed over to ground
pub record MayHear (c : Config) (p : Pair) (to subtype : ℕ) (said : Verification) : Type 0 where
  pub octets : List ℕ
  pub on_the_way : IsOnTheWay p.ends Down octets
  pub is : IsVerification c (record { direction = Down; octets = octets }) to subtype said

-- a request of this source and with this request ID is among those that a log has as executed
pub record IsExecutedIn (c : Config) (log : Log) (from request : ℕ) : Type 0 where
  pub place : ℕ
  pub message : List ℕ
  pub is_executed : slice_get (requests_executed log) place ≡ Some message
  pub is_named : IsNamed c from request message

-- the body of a dump report that the spacecraft put out to this source and that may be handed over
-- to ground
pub record MayHearDump (c : Config) (p : Pair) (to : ℕ) (body : List ℕ) : Type 0 where
  pub octets : List ℕ
  pub on_the_way : IsOnTheWay p.ends Down octets
  pub is : IsTelemetryDown c (record { direction = Down; octets = octets }) to 6 6 body

-- a dump of this source is among those that a log has as executed, and this is what it says of the
-- memories that those before it leave
pub record IsDumpedIn (c : Config) (first : Contents) (log : Log) (from : ℕ)
    (body : List ℕ) : Type 0 where
  pub place : ℕ
  pub message : List ℕ
  pub is_executed : slice_get (requests_executed log) place ≡ Some message
  pub of_source : request_source c.apid message ≡ from
  pub memory : ℕ
  pub ranges : List AreaRange
  pub is_dump : meaning c.apid (sizes_of first) message ≡ Dump memory ranges
  pub is_body : body ≡ dump_body memory ranges
      (left_by c.apid (take place (requests_executed log)) first)

-- whatever two ends did
abbrev pub HeardDumpIsMemory : Type 0
HeardDumpIsMemory =
    (c : Config) (first : Contents) (xs : List Move) (to : ℕ) (body : List ℕ)
    → IsConfig c
    → CanMoveAll c first xs
    → MayHearDump c (came_to c first xs) to body
    → IsDumpedIn c first (came_to c first xs).ends.log to body

-- whatever two ends did
abbrev pub HeardWasExecuted : Type 0
HeardWasExecuted =
    (c : Config) (first : Contents) (xs : List Move) (to subtype : ℕ) (said : Verification)
    → IsConfig c
    → CanMoveAll c first xs
    → MayHear c (came_to c first xs) to subtype said
    → (subtype ≡ 3) ⊎ (subtype ≡ 7)
    → IsExecutedIn c (came_to c first xs).ends.log to said.request.value

-- ---- dumps in parts

-- no large message that the spacecraft's program itself opened in these moves reads as a dump
-- report to this destination
abbrev pub OpensNoDump : Config → List Move → (to : ℕ) → Type 0
OpensNoDump c xs to =
    (k : ℕ) (name : Name) (m body : List ℕ)
    → slice_get xs k ≡ Some (Do (Open Down name m))
    → IsTelemetryDown c (record { direction = Down; octets = m }) to 6 6 body
    → ⊥

-- a large message was released to ground, joined of its parts
pub record CameDown (log : Log) (m : List ℕ) : Type 0 where
  pub place : ℕ
  pub name : Name
  pub is_there : slice_get log place ≡ Some (Released (Some (Down, name)) m)

-- whatever else two ends did
abbrev pub JoinedDumpIsMemory : Type 0
JoinedDumpIsMemory =
    (c : Config) (first : Contents) (xs : List Move) (to : ℕ) (m body : List ℕ)
    → IsConfig c
    → CanMoveAll c first xs
    → OpensNoDump c xs to
    → CameDown (came_to c first xs).ends.log m
    → IsTelemetryDown c (record { direction = Down; octets = m }) to 6 6 body
    → IsDumpedIn c first (came_to c first xs).ends.log to body

-- ---- a pass

-- whatever ground asked for by a plain request, or opened as a large one, of this source and with
-- this request ID is this message
pub record IsAloneIn (c : Config) (log : Log) (from request : ℕ) (m : List ℕ) : Type 0 where
  pub plain : (k : ℕ) (b : List ℕ)
      → slice_get log k ≡ Some (Asked b)
      → IsNamed c from request b
      → b ≡ m
  pub large : (k : ℕ) (name : Name) (b : List ℕ)
      → slice_get log k ≡ Some (Opened Up name b)
      → IsNamed c from request b
      → b ≡ m

-- Ground's requests of a pass, all of one source, which load an image, each octet of it. None of
-- that source was executed before the place, and from there on nothing else is loaded into the
-- range.
--
-- Assumed: The source of a pass is new, each of its request IDs names one request, and nothing else
-- is loaded into the image's range since the pass began.
pub record IsPass (c : Config) (first : Contents) (log : Log) (x : Image) (from place : ℕ)
    (requests : List (List ℕ)) : Type 0 where
  pub loaded : (i : ℕ)
      → i < length x.octets
      → IsLoaded x i c.apid (sizes_of first) requests
  pub alone : (k : ℕ) (m : List ℕ)
      → slice_get requests k ≡ Some m
      → IsAloneIn c log from (long_at m 0) m
  pub is_new : (k : ℕ) (b : List ℕ)
      → slice_get (requests_executed log) k ≡ Some b
      → request_source c.apid b ≡ from
      → place ≤ k
  pub others : AreTrueTo x c.apid (sizes_of first) (drop place (requests_executed log))

-- a verification report could be heard after the first of some moves, which stand last
pub record WasHeard (c : Config) (first : Contents) (xs : List Move) (to subtype : ℕ)
    (said : Verification) : Type 0 where
  pub later : List Move
  pub earlier : List Move
  pub are : later ++ earlier ≡ xs
  pub may : MayHear c (came_to c first earlier) to subtype said

-- of each of them a report of start or completion was heard
abbrev pub AllHeard : Config → Contents → List Move → (from : ℕ) → List (List ℕ) → Type 0
AllHeard c first xs from requests =
    (k : ℕ) (m : List ℕ)
    → slice_get requests k ≡ Some m
    → (subtype : ℕ) × (said : Verification)
    × ((subtype ≡ 3) ⊎ (subtype ≡ 7))
    × (said.request.value ≡ long_at m 0)
    × WasHeard c first xs from subtype said

-- whatever else two ends did
abbrev pub PassesLeaveTheImage : Type 0
PassesLeaveTheImage =
    (c : Config) (first : Contents) (xs : List Move) (x : Image) (content : List ℕ)
    (from place : ℕ) (requests : List (List ℕ))
    → IsConfig c
    → CanMoveAll c first xs
    → content_of x.memory first ≡ Some content
    → x.address + length x.octets ≤ length content
    → IsPass c first (came_to c first xs).ends.log x from place requests
    → AllHeard c first xs from requests
    → Stands x (came_to c first xs).ends.memories
