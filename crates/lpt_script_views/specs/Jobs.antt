-- What is told of the jobs that aren't executed.
use Rattle.std.specs.Prelude.{ℕ, zero, ◌+◌, ◌-◌, nat_le, Bool, false, ◌||◌, if◌then◌else◌, List, [], ◌∷◌, length, codes, decimal}
use Rattle.lpt_script_text.specs.Printing.{line_of}
use Rattle.lpt_acts.specs.Acts.{Act}
use Rattle.lpt_events.specs.declared.reply.Answer.{Answer}
use Rattle.lpt_events.specs.declared.side.Side.TheVariants.{Craft}
use Rattle.lpt_journal.specs.Jobs.{applied_after, boot, claimed_after, commits, is_committed, jobs, jobs_applied, jobs_claimed}
use Rattle.lpt_journal.specs.Journal.{History}
use Rattle.lpt_journal.specs.Senders.{restarts}
use Rattle.lpt_world.specs.Worlds.{Shown, history}
use Rattle.lpt_script_views.specs.Rows.{rows_text}
use Rattle.lpt_script_views.specs.declared.jobs.Counts.{Counts}
use Rattle.lpt_script_views.specs.declared.jobs.Stage.{Stage}
use Rattle.lpt_script_views.specs.declared.jobs.Stage.TheVariants.{Waits, Claimed, Committed}

-- ---- what was counted

-- nothing was done
abbrev pub none_counted : Counts
none_counted = record { boot = 0; claimed = 0; applied = 0 }

-- the counts after an act
abbrev pub counts_after : Act → Answer → Counts → Counts
counts_after e answer before =
    if restarts e Craft then record { boot = before.boot + 1; claimed = 0; applied = 0 }
    else record {
      boot = before.boot;
      claimed = claimed_after e before.claimed;
      applied = applied_after e before.applied;
    }

-- the spacecraft's boot, and how many of its jobs were claimed and executed
abbrev pub counts_of : History → Counts
counts_of h =
    record { boot = boot h Craft; claimed = jobs_claimed h; applied = jobs_applied h }

-- whether the reading of a job was handed in, after an act with this answer
abbrev pub committed_after : (job : ℕ) → Act → Answer → Bool → Bool
committed_after job e answer before =
    if restarts e Craft then false else commits answer job || before

-- ---- the rows

-- how far a job is of which a worker has the reading to do, or did it
abbrev pub stage_of : History → (claimed job : ℕ) → Stage
stage_of h claimed job =
    if nat_le claimed job then Waits else if is_committed h job then Committed else Claimed

abbrev pub stage_word : Stage → List ℕ
stage_word Waits = codes "waits"
stage_word Claimed = codes "claimed"
stage_word Committed = codes "committed"

-- a job by its boot and its number in it, and how far it is
abbrev pub job_line : (boot job : ℕ) → Stage → List ℕ
job_line boot job stage =
    line_of (codes "job" ∷ decimal boot ∷ decimal job ∷ stage_word stage ∷ [])

-- the job of this number, by what was counted
abbrev pub job_row : Counts → History → (job : ℕ) → List ℕ
job_row counts h job = job_line counts.boot job (stage_of h counts.claimed job)

-- the jobs that aren't executed, the oldest first
abbrev pub jobs_text : Shown → List ℕ
jobs_text w =
    let counts = counts_of (history w) in
    rows_text (job_row counts (history w)) counts.applied
    (length (jobs w.config (history w)) - jobs_applied (history w))
