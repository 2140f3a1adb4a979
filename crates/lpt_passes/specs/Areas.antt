-- What a pass of planned loads leaves in the spacecraft's memories.
use Rattle.std.specs.Prelude.{◌≡◌, ℕ, ◌<◌, ◌≤◌, List, length, slice_get, Option, Some, None}
use Rattle.std.specs.List.{AllByRecursion}
use Rattle.lpt_memory.specs.declared.request.Area.{Area}
use Rattle.lpt_memory.specs.Memories.{Contents, content_of}
use Rattle.lpt_memory.specs.Ranges.{AreasFit}
use Rattle.lpt_requests.specs.Cuts.{areas_fault}
use Rattle.lpt_events.specs.Configs.{IsConfig}
use Rattle.lpt_events.specs.declared.config.Config.{Config}
use Rattle.lpt_apart.specs.Ends.{Move}
use Rattle.lpt_apart.specs.Moves.{came_to, CanMoveAll}
use Rattle.lpt_passes.specs.Images.{Agrees, Image, Stands}
use Rattle.lpt_ground.specs.declared.asked.Asked.{Asked}
use Rattle.lpt_ground.specs.declared.asked.Terms.{Terms}
use Rattle.lpt_ground.specs.declared.pass.End.TheVariants.{Done}
use Rattle.lpt_ground.specs.Carrying.{packets_of}
use Rattle.lpt_ground.specs.Passes.{PassState, pass_begun}
use Rattle.lpt_passes.specs.Chains.{WerePutOut, messages_of}
use Rattle.lpt_ground_run.specs.Carried.{CameTo}
use Rattle.lpt_ground_run.specs.Handing.{IsPacketOf}
use Rattle.lpt_ground_run.specs.Errands.{ArePlans, Task}
use Rattle.lpt_passes.specs.AloneJobs.{AreAlone, image_of}

-- A task of this APID and source, with numbers in their ranges, whose areas lie within one of the
-- first memories.
pub record IsTask (apid source : ℕ) (first : Contents) (t : Task) : Type 0 where
  pub of_apid : t.heads.apid ≡ apid
  pub of_source : t.heads.source ≡ source
  pub flags_fit : t.heads.flags ≤ 15
  pub some : 0 < t.each
  pub few : t.each ≤ 65519
  pub faultless : areas_fault t.areas ≡ None
  pub before : List ℕ
  pub is_known : content_of t.memory first ≡ Some before
  pub fit : AreasFit (length before) t.areas

-- wherever an area of a task has an octet for a place of the image, it is the image's
abbrev pub AllAgree : List Task → Image → Type 0
AllAgree tasks x =
    AllByRecursion (λ (t : Task). t.memory ≡ x.memory → AllByRecursion (Agrees x) t.areas) tasks

-- whatever was heard
abbrev pub DoneLeavesTheAreas : Type 0
DoneLeavesTheAreas =
    (c : Config) (first : Contents) (xs : List Move) (tasks : List Task) (asked : List Asked)
    (terms : Terms) (longest : ℕ) (down : Option (List ℕ)) (end : PassState)
    (old new : Option (List ℕ)) (place n k : ℕ) (t : Task) (a : Area)
    → IsConfig c
    → CanMoveAll c first xs
    → terms.apid ≡ c.apid
    → terms.source < 65536
    → AllByRecursion (IsTask c.apid terms.source first) tasks
    → ArePlans tasks asked
    → (came : CameTo (IsPacketOf longest down) terms (pass_begun terms asked) end old new Done)
    → WerePutOut c first xs terms (packets_of came.answers)
    → slice_get tasks n ≡ Some t
    → slice_get t.areas k ≡ Some a
    → AllAgree tasks (image_of t.memory a)
    → AreAlone c first (came_to c first xs).ends.log (image_of t.memory a) terms.source place
    (messages_of asked)
    → Stands (image_of t.memory a) (came_to c first xs).ends.memories
