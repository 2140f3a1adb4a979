-- A worked job of loads: what calls its pass hears, and what two ends do meanwhile.
use Rattle.std.specs.Prelude.{◌≡◌, ℕ, List, [], ◌∷◌}
use Rattle.lpt_packet.specs.declared.direction.Direction.TheVariants.{Up}
use Rattle.lpt_events.specs.Configs.{IsConfig}
use Rattle.lpt_events.specs.declared.worker.Worker.TheVariants.{W1}
use Rattle.lpt_acts.specs.Acts.{Execute}
use Rattle.lpt_apart.specs.Ends.{Do, Move, Plain, Accept, Claim, Commit, Apply}
use Rattle.lpt_apart.specs.Moves.{came_to, CanMoveAll}
use Rattle.lpt_ground.specs.Carrying.{Answer, Came, Nothing, packets_of}
use Rattle.lpt_passes.specs.Chains.{WerePutOut}
use Rattle.lpt_c_ground.specs.Jobs.{terms_of}
use Rattle.lpt_c_ground.specs.Calls.{GoesBy, step_of, step_word}
use Rattle.lpt_c_ground.specs.Plans.{IsNew}
use Rattle.lpt_c_ground.specs.declared.grounds.Ground.{Ground}
use Rattle.lpt_c_ground.specs.declared.jobs.LptJob.{LptJob}
use Rattle.lpt_c_ground.specs.declared.jobs.LptPlace.{LptPlace}
use Rattle.lpt_journal_examples.specs.Passes.{load, usual, usual_memories}
use Rattle.lpt_passes.specs.AloneJobs.{AreAlone}
use Rattle.lpt_passes.specs.Places.{IsForMemory, image_at, requests_of}

-- ---- the job

-- octets are loaded into the memory 1, by requests that ask for a report of completion
abbrev pub job : LptJob
job = record {
  kind = 1;
  memory = 1;
  flags = 8;
  apid = 100;
  source = 7;
  count = 0;
  part_size = 8;
  tries = 1;
}

-- four octets, from place 16 on
abbrev pub place : LptPlace
place = record { address = 16; len = 4 }

abbrev pub content : List ℕ
content = 171 ∷ 205 ∷ 239 ∷ 1 ∷ []

-- the packet of its only request
abbrev pub request : List ℕ
request =
    24 ∷ 100 ∷ 192 ∷ 0 ∷ 0 ∷ 20 ∷ 40 ∷ 6 ∷ 2 ∷ 0 ∷ 7 ∷ 1 ∷ 1 ∷ 0 ∷ 0 ∷ 0 ∷ 16 ∷ 0 ∷ 4 ∷ 171 ∷ 205
    ∷ 239 ∷ 1 ∷ 4 ∷ 162 ∷ 57 ∷ 239 ∷ []

-- the report that it was completed
abbrev pub report : List ℕ
report =
    8 ∷ 100 ∷ 192 ∷ 0 ∷ 0 ∷ 16 ∷ 32 ∷ 1 ∷ 7 ∷ 0 ∷ 0 ∷ 0 ∷ 7 ∷ 0 ∷ 0 ∷ 0 ∷ 0 ∷ 24 ∷ 100 ∷ 192 ∷ 0
    ∷ 103 ∷ 82 ∷ []

-- ---- the run

-- nothing has come when the request is sent, and then the report comes
abbrev pub answers : List Answer
answers = Nothing ∷ Came report ∷ []

-- ground asks, and the spacecraft executes, the newest move first
abbrev pub run : List Move
run =
    Do (Apply Execute) ∷ Do (Commit W1) ∷ Do (Claim W1) ∷ Do (Accept Up request)
    ∷ Do (Plain 7 8 6 2 load) ∷ []

-- all that is asked of a completed job: of the pass `g` that began, and of what it became
pub record IsMet (g new : Ground) : Type 0 where
  pub configured : IsConfig usual
  pub can : CanMoveAll usual usual_memories run
  pub for_memory : IsForMemory usual usual_memories job (place ∷ [])
  pub says : step_word (step_of new) ≡ 3
  pub put_out : WerePutOut usual usual_memories run (terms_of job) (packets_of answers)
  pub alone : AreAlone usual usual_memories (came_to usual usual_memories run).ends.log
      (image_at job (place ∷ []) content 0 place) 7 0 (requests_of g)

-- whatever pass is made of the job, and whatever those calls make of it
abbrev pub JobsCanBeCompleted : Type 0
JobsCanBeCompleted =
    (g new : Ground)
    → IsNew job (place ∷ []) content g
    → GoesBy answers g new
    → IsMet g new
