-- A worked pass of two loads: a report is lost, the spacecraft is restarted, and one load is
-- executed twice.
use Rattle.std.specs.Prelude.{◌≡◌, ℕ, ◌<◌, List, [], ◌∷◌, length, slice_get, Some}
use Rattle.lpt_pus.specs.Numbers.{long_at}
use Rattle.lpt_memory.specs.Memories.{sizes_of}
use Rattle.lpt_verify.specs.declared.report.Report.{Report as Verification}
use Rattle.lpt_acts.specs.Acts.{Execute, Act, Plain, Lose, Take, Deliver, Claim, Commit, Apply, Restart}
use Rattle.lpt_events.specs.declared.lane.Lane.TheVariants.{S1, G1}
use Rattle.lpt_events.specs.declared.side.Side.TheVariants.{Craft}
use Rattle.lpt_events.specs.declared.worker.Worker.TheVariants.{W1}
use Rattle.lpt_journal.specs.Journal.{SentPacket}
use Rattle.lpt_journal.specs.Link.{sent}
use Rattle.lpt_journal_examples.specs.Passes.{pass_history, usual, usual_memories, load}
use Rattle.lpt_passes.specs.Images.{Image, AreTrueTo, IsLoaded}
use Rattle.lpt_passes.specs.Reported.{IsVerification}

-- eight octets of memory 1
abbrev pub image : Image
image = record {
  memory = 1;
  address = 16;
  octets = 171 ∷ 205 ∷ 239 ∷ 1 ∷ 1 ∷ 2 ∷ 3 ∷ 4 ∷ [];
}

-- the body of a request to load the last four of them
abbrev pub next_body : List ℕ
next_body = 1 ∷ 1 ∷ 0 ∷ 0 ∷ 0 ∷ 20 ∷ 0 ∷ 4 ∷ 1 ∷ 2 ∷ 3 ∷ 4 ∷ 137 ∷ 195 ∷ []

-- the packets of both loads, of the source 7
abbrev pub first_load : List ℕ
first_load =
    24 ∷ 100 ∷ 192 ∷ 0 ∷ 0 ∷ 20 ∷ 40 ∷ 6 ∷ 2 ∷ 0 ∷ 7 ∷ 1 ∷ 1 ∷ 0 ∷ 0 ∷ 0 ∷ 16 ∷ 0 ∷ 4 ∷ 171 ∷ 205
    ∷ 239 ∷ 1 ∷ 4 ∷ 162 ∷ 57 ∷ 239 ∷ []

abbrev pub next_load : List ℕ
next_load =
    24 ∷ 100 ∷ 192 ∷ 1 ∷ 0 ∷ 20 ∷ 40 ∷ 6 ∷ 2 ∷ 0 ∷ 7 ∷ 1 ∷ 1 ∷ 0 ∷ 0 ∷ 0 ∷ 20 ∷ 0 ∷ 4 ∷ 1 ∷ 2 ∷ 3
    ∷ 4 ∷ 137 ∷ 195 ∷ 200 ∷ 216 ∷ []

-- the pass, its oldest act first: each load asks for a report of its completion
abbrev pub load_twice : List Act
load_twice =
    Plain 7 8 6 2 load ∷ Plain 7 8 6 2 next_body
    ∷ Take S1 0 ∷ Deliver S1 ∷ Claim W1 ∷ Commit W1 ∷ Apply Execute
    ∷ Lose 2 ∷ Restart Craft
    ∷ Take S1 0 ∷ Deliver S1 ∷ Claim W1 ∷ Commit W1 ∷ Apply Execute
    ∷ Take S1 1 ∷ Deliver S1 ∷ Claim W1 ∷ Commit W1 ∷ Apply Execute
    ∷ Take G1 3 ∷ Deliver G1 ∷ Take G1 4 ∷ Deliver G1 ∷ []

-- a report of the completion of this load is on the link, to its source
pub record IsReported (m : List ℕ) : Type 0 where
  pub number : ℕ
  pub packet : SentPacket
  pub is_there : slice_get (sent (pass_history usual load_twice)) number ≡ Some packet
  pub said : Verification
  pub is : IsVerification usual packet 7 7 said
  pub of_request : said.request.value ≡ long_at m 0

-- these requests load the image, each octet of it, and nothing else
pub record AreItsLoads (requests : List (List ℕ)) : Type 0 where
  pub only : AreTrueTo image 100 (sizes_of usual_memories) requests
  pub each : (i : ℕ)
      → i < length image.octets
      → IsLoaded image i 100 (sizes_of usual_memories) requests
