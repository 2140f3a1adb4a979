-- Where a load went that was executed.
use Rattle.std.specs.Prelude.{◌≡◌, ◌⊎◌, ℕ, List, map, Option, Some}
use Rattle.lpt_c_end.specs.Areas.{load_in}
use Rattle.lpt_c_end.specs.Changes.{execution_of, IsExecuted}
use Rattle.lpt_c_end.specs.declared.end.End.{End}
use Rattle.lpt_c_end.specs.declared.kept.Kept.TheVariants.{Here}
use Rattle.lpt_events.specs.declared.applied.Applied.TheVariants.{Done, Code}
use Rattle.lpt_jobs.specs.Jobs.{head_of, Ready}
use Rattle.lpt_memory.specs.Meanings.{area}
use Rattle.lpt_memory.specs.Memories.{memories_loaded, sizes_of, Contents}
use Rattle.lpt_memory.specs.Readings.{Source}
use Rattle.lpt_memory.specs.Requests.{LoadArea, Request, front_load_area, request_in}
use Rattle.lpt_packet.specs.Names.{Name}
use Rattle.lpt_pus.specs.declared.failure_code.FailureCode.{FailureCode}

-- it was carried out: its areas were written over the memory that it names, one after the other
pub record IsCarriedOut (r : Request LoadArea) (ms : Contents) (e new : End) : Type 0 where
  pub opened : Option Name
  pub applied : (execution_of e).0.1.applied ≡ Done opened
  pub memories : new.memories ≡ Here (memories_loaded r.memory (map area r.areas) ms)

-- it was refused: nothing was written
pub record IsRefused (ms : Contents) (e new : End) : Type 0 where
  pub code : FailureCode
  pub applied : (execution_of e).0.1.applied ≡ Code code
  pub memories : new.memories ≡ Here ms

-- a message, as it is read for these memories
abbrev pub read_for : (apid : ℕ) → Contents → List ℕ → Source
read_for apid ms message = record { apid = apid; sizes = sizes_of ms; message = message }

-- the oldest request is a load with these areas: it is carried out, or refused
abbrev pub LoadsGoWhereTheySay : Type 0
LoadsGoWhereTheySay =
    (e new : End) (ms : Contents) (message body : List ℕ) (r : Request LoadArea)
    → e.memories ≡ Here ms
    → head_of e.node.at.jobs.jobs ≡ Ready (read_for e.config.apid ms message)
    → load_in e.config.apid message ≡ Some body
    → request_in front_load_area body ≡ Some r
    → IsExecuted e new
    → IsCarriedOut r ms e new ⊎ IsRefused ms e new
