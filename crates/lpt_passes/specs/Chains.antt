-- From a pass that is done to the spacecraft's memory.
use Rattle.std.specs.Prelude.{◌≡◌, ℕ, ◌+◌, ◌≤◌, List, ◌++◌, length, map, slice_get, Some, None}
use Rattle.lpt_packet.specs.declared.direction.Direction.TheVariants.{Down}
use Rattle.lpt_pus.specs.Numbers.{long_at}
use Rattle.lpt_pus.specs.Telemetry.{Telemetry}
use Rattle.lpt_memory.specs.Memories.{Contents, content_of}
use Rattle.lpt_events.specs.Configs.{IsConfig}
use Rattle.lpt_events.specs.declared.config.Config.{Config}
use Rattle.lpt_apart.specs.Ends.{Move}
use Rattle.lpt_apart.specs.TwoEnds.{IsOnTheWay}
use Rattle.lpt_apart.specs.Moves.{came_to, CanMoveAll}
use Rattle.lpt_passes.specs.Images.{Image, Stands}
use Rattle.lpt_passes.specs.Passes.{AllHeard, IsPass}
use Rattle.lpt_ground.specs.declared.asked.Asked.{Asked}
use Rattle.lpt_ground.specs.declared.asked.Awaits.TheVariants.{Completion}
use Rattle.lpt_ground.specs.declared.asked.Fate.TheVariants.{Waiting}
use Rattle.lpt_ground.specs.declared.asked.Terms.{Terms}
use Rattle.lpt_ground.specs.declared.pass.End.TheVariants.{Done}
use Rattle.lpt_ground.specs.declared.pass.Step.TheVariants.{Stop}
use Rattle.lpt_ground.specs.Carrying.{Answer, come_to, packets_of}
use Rattle.lpt_ground.specs.Passes.{PassState, next_step, octets_heard}
use Rattle.lpt_ground.specs.Telling.{report_of}
use Rattle.lpt_ground.specs.declared.large.Large.{Large}
use Rattle.lpt_ground.specs.CarryingLarge as large
use Rattle.lpt_ground.specs.Uplinks.{Way, next_way}

-- a request waits, awaits the report of its completion, and is known by its first four octets
pub record IsLoad (a : Asked) : Type 0 where
  pub awaits_completion : a.awaits ≡ Completion
  pub is_named : a.id ≡ long_at a.octets 0
  pub waits : a.fate ≡ Waiting

-- each of them does
abbrev pub AreLoads : List Asked → Type 0
AreLoads asked = (k : ℕ) (a : Asked) → slice_get asked k ≡ Some a → IsLoad a

-- their packets
abbrev pub messages_of : List Asked → List (List ℕ)
messages_of asked = map (λ (a : Asked). a.octets) asked

-- octets were on their way down after the first of some moves, which stand last
pub record WasPutOut (c : Config) (first : Contents) (xs : List Move) (o : List ℕ) : Type 0 where
  pub later : List Move
  pub earlier : List Move
  pub are : later ++ earlier ≡ xs
  pub on_the_way : IsOnTheWay (came_to c first earlier).ends Down o

-- Each of these packets was that is a report under these terms.
--
-- Assumed: What ground hears as a report of the pass was put out by the spacecraft, before it was
-- heard.
abbrev pub WerePutOut : Config → Contents → List Move → Terms → List (List ℕ) → Type 0
WerePutOut c first xs terms packets =
    (k : ℕ) (o : List ℕ) (t : Telemetry)
    → slice_get packets k ≡ Some o
    → report_of terms o ≡ Some t
    → WasPutOut c first xs o

-- so was each that can come where ground hears
abbrev pub IsPutOut : Config → Contents → List Move → Terms → (P : List ℕ → Type 0) → Type 0
IsPutOut c first xs terms P =
    (o : List ℕ) (t : Telemetry) → P o → report_of terms o ≡ Some t → WasPutOut c first xs o

-- what is no report under its terms leaves a pass as it is
abbrev pub OthersLeaveThePass : Type 0
OthersLeaveThePass =
    (terms : Terms) (s : PassState) (o : List ℕ)
    → report_of terms o ≡ None
    → octets_heard terms s o ≡ s

-- what was heard of a pass that is done
abbrev pub DoneWasHeard : Type 0
DoneWasHeard =
    (c : Config) (first : Contents) (xs : List Move) (terms : Terms) (s : PassState)
    (answers : List Answer)
    → terms.apid ≡ c.apid
    → AreLoads s.asked
    → WerePutOut c first xs terms (packets_of answers)
    → next_step (come_to terms s answers) ≡ Stop Done
    → AllHeard c first xs terms.source (messages_of s.asked)

-- what it leaves
abbrev pub DoneLeavesTheImage : Type 0
DoneLeavesTheImage =
    (c : Config) (first : Contents) (xs : List Move) (x : Image) (content : List ℕ) (place : ℕ)
    (terms : Terms) (s : PassState) (answers : List Answer)
    → IsConfig c
    → CanMoveAll c first xs
    → content_of x.memory first ≡ Some content
    → x.address + length x.octets ≤ length content
    → terms.apid ≡ c.apid
    → AreLoads s.asked
    → IsPass c first (came_to c first xs).ends.log x terms.source place (messages_of s.asked)
    → WerePutOut c first xs terms (packets_of answers)
    → next_step (come_to terms s answers) ≡ Stop Done
    → Stands x (came_to c first xs).ends.memories

-- the same of a load that goes up as a large message, under whatever names
abbrev pub LargeLeavesTheImage : Type 0
LargeLeavesTheImage =
    (c : Config) (first : Contents) (xs : List Move) (x : Image) (content : List ℕ) (place : ℕ)
    (l : Large) (terms : Terms) (w : Way) (answers : List Answer)
    → IsConfig c
    → CanMoveAll c first xs
    → content_of x.memory first ≡ Some content
    → x.address + length x.octets ≤ length content
    → terms.apid ≡ c.apid
    → AreLoads w.of_request.asked
    → IsPass c first (came_to c first xs).ends.log x terms.source place
    (messages_of w.of_request.asked)
    → WerePutOut c first xs terms (packets_of answers)
    → next_way l (large.come_to l terms w answers) ≡ Stop Done
    → Stands x (came_to c first xs).ends.memories
