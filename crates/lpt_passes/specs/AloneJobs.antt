-- That nothing else goes to an image while a job's requests are executed.
use Rattle.std.specs.Prelude.{◌≡◌, ◌⊎◌, ℕ, ◌≤◌, List, slice_get, Some}
use Rattle.lpt_pus.specs.Numbers.{long_at}
use Rattle.lpt_memory.specs.declared.request.Area.{Area}
use Rattle.lpt_memory.specs.Meanings.{meaning}
use Rattle.lpt_memory.specs.Memories.{Contents, sizes_of}
use Rattle.lpt_events.specs.declared.config.Config.{Config}
use Rattle.lpt_execution.specs.Reporting.{request_source}
use Rattle.lpt_apart.specs.Ends.{Log}
use Rattle.lpt_apart.specs.TwoEnds.{requests_executed}
use Rattle.lpt_passes.specs.Images.{Image, IsTrueTo}
use Rattle.lpt_passes.specs.Passes.{IsAloneIn}

-- an area as an image of this memory
abbrev pub image_of : (memory : ℕ) → Area → Image
image_of memory a = record { memory = memory; address = a.address; octets = a.octets }

-- the message is one of these
abbrev pub IsAmong : List ℕ → List (List ℕ) → Type 0
IsAmong m requests = (k : ℕ) × (slice_get requests k ≡ Some m)

-- Ground asked for, or opened, nothing else under the source of these requests and the request ID
-- of one; none of that source was executed before the place; and whatever was executed from there
-- on is one of them, or loads nothing but the image's octets into its range.
pub record AreAlone (c : Config) (first : Contents) (log : Log) (x : Image) (from place : ℕ)
    (requests : List (List ℕ)) : Type 0 where
  pub alone : (k : ℕ) (m : List ℕ)
      → slice_get requests k ≡ Some m
      → IsAloneIn c log from (long_at m 0) m
  pub is_new : (k : ℕ) (b : List ℕ)
      → slice_get (requests_executed log) k ≡ Some b
      → request_source c.apid b ≡ from
      → place ≤ k
  pub others : (k : ℕ) (b : List ℕ)
      → slice_get (requests_executed log) k ≡ Some b
      → place ≤ k
      → IsAmong b requests ⊎ IsTrueTo x (meaning c.apid (sizes_of first) b)
