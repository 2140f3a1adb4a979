-- That what was read of an end's jobs was read for its memories.
use Rattle.std.specs.Prelude.{◌≡◌, ℕ, All, Option, Some}
use Rattle.lpt_jobs.specs.declared.job.Job.{Job}
use Rattle.lpt_jobs.specs.declared.job.Job.TheVariants.{Committed}
use Rattle.lpt_memory.specs.Meanings.{Sizes}
use Rattle.lpt_memory.specs.Readings.{Source}
use Rattle.lpt_node.specs.Nodes.{NodeView}

-- a job's reading, if it has one, is for this APID and memories of these sizes
abbrev pub IsReading : ℕ → Sizes → Job → Type 0
IsReading apid sizes j = (r : Source) → j ≡ Committed r → (r.apid ≡ apid) × (r.sizes ≡ sizes)

-- the readings of an end's jobs are for its APID and memories of its sizes, if it has some
abbrev pub IsReady : NodeView → Option Sizes → Type 0
IsReady n own = (sizes : Sizes) → own ≡ Some sizes → All (IsReading n.config.apid sizes)
    n.at.jobs.jobs
