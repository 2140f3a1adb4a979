-- What a C program's job of loads leaves in the spacecraft's memory.
use Rattle.std.specs.Prelude.{◌≡◌, ◌≢◌, ◌⊎◌, ℕ, ◌+◌, ◌^◌, ◌<◌, ◌≤◌, List, length, take, drop, sum_by, slice_get, Some}
use Rattle.std.specs.List.{AllByRecursion}
use Rattle.lpt_memory.specs.declared.request.Area.{Area}
use Rattle.lpt_memory.specs.Memories.{Contents, content_of}
use Rattle.lpt_events.specs.Configs.{IsConfig}
use Rattle.lpt_events.specs.declared.config.Config.{Config}
use Rattle.lpt_apart.specs.Ends.{Move}
use Rattle.lpt_apart.specs.Moves.{came_to, CanMoveAll}
use Rattle.lpt_passes.specs.Images.{Image, Stands}
use Rattle.lpt_ground.specs.Carrying.{Answer, packets_of}
use Rattle.lpt_passes.specs.Chains.{WerePutOut, messages_of}
use Rattle.lpt_c_ground.specs.Calls.{GoesBy, step_of, step_word}
use Rattle.lpt_c_ground.specs.Jobs.{terms_of}
use Rattle.lpt_c_ground.specs.Plans.{IsNew}
use Rattle.lpt_c_ground.specs.declared.grounds.Ground.{Ground}
use Rattle.lpt_c_ground.specs.declared.jobs.LptJob.{LptJob}
use Rattle.lpt_c_ground.specs.declared.jobs.LptPlace.{LptPlace}
use Rattle.lpt_passes.specs.AloneJobs.{AreAlone, image_of}

-- ---- what a job gives its places

-- where in the content the octets of the place of this number begin: behind those of the places
-- before it
abbrev pub begins_at : List LptPlace → (k : ℕ) → ℕ
begins_at places k = sum_by (λ (q : LptPlace). q.len) (take k places)

-- this place, the one of that number, with its octets
abbrev pub area_at : List LptPlace → (content : List ℕ) → (k : ℕ) → LptPlace → Area
area_at places content k p = record {
  address = p.address;
  octets = take p.len (drop (begins_at places k) content);
}

-- the same as an image of the job's memory
abbrev pub image_at : LptJob → List LptPlace → (content : List ℕ) → (k : ℕ) → LptPlace → Image
image_at j places content k p = image_of j.memory (area_at places content k p)

-- no address is in two of the places
abbrev pub AreApart : List LptPlace → Type 0
AreApart places =
    (i k : ℕ) (p q : LptPlace)
    → slice_get places i ≡ Some p
    → slice_get places k ≡ Some q
    → i ≢ k
    → (p.address + p.len ≤ q.address) ⊎ (q.address + q.len ≤ p.address)

-- ---- its pass

-- A job of loads of the spacecraft's APID, whose places lie within one of the first memories.
pub record IsForMemory (c : Config) (first : Contents) (j : LptJob)
    (places : List LptPlace) : Type 0 where
  pub loads : j.kind ≡ 1
  pub of_apid : j.apid ≡ c.apid
  pub source_fits : j.source < 2 ^ 16
  pub before : List ℕ
  pub is_known : content_of j.memory first ≡ Some before
  pub fit : AllByRecursion (λ (q : LptPlace). q.address + q.len ≤ length before) places

-- Calls that answered 0 carried a job's new pass until it says that it is completed. What was
-- handed over to it was put out by the spacecraft.
pub record IsCompleted (c : Config) (first : Contents) (xs : List Move) (j : LptJob)
    (places : List LptPlace) (content : List ℕ) : Type 0 where
  pub new : Ground
  pub made : IsNew j places content new
  pub answers : List Answer
  pub end : Ground
  pub goes : GoesBy answers new end
  pub says : step_word (step_of end) ≡ 3
  pub put_out : WerePutOut c first xs (terms_of j) (packets_of answers)

-- the packets of its requests
abbrev pub requests_of : Ground → List (List ℕ)
requests_of g = messages_of g.pass.asked.items

-- ---- the laws

-- those of a job of loads that has a pass are
abbrev pub LoadsAreApart : Type 0
LoadsAreApart =
    (j : LptJob) (places : List LptPlace) (content : List ℕ) (g : Ground)
    → j.kind ≡ 1
    → IsNew j places content g
    → AreApart places

-- each place has its octets
abbrev pub CompletedLeavesTheContent : Type 0
CompletedLeavesTheContent =
    (c : Config) (first : Contents) (xs : List Move) (j : LptJob) (places : List LptPlace)
    (content : List ℕ) (place k : ℕ) (p : LptPlace)
    → IsConfig c
    → CanMoveAll c first xs
    → IsForMemory c first j places
    → (done : IsCompleted c first xs j places content)
    → slice_get places k ≡ Some p
    → AreAlone c first (came_to c first xs).ends.log (image_at j places content k p) j.source place
    (requests_of done.new)
    → (length (area_at places content k p).octets ≡ p.len)
    × Stands (image_at j places content k p) (came_to c first xs).ends.memories
