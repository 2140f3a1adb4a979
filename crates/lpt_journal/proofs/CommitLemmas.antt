-- What a commit answers, and which jobs are committed after it.
use Rattle.std.proofs.Common.{◌≡◌, ◌∙◌, ap, refl, ℕ, ◌==◌, Bool, true, false, not, ◌&&◌, ◌||◌, if◌then◌else◌, ◌∷◌, Option, Some, None}
use Rattle.lpt_memory.specs.Memories.{Contents}
use Rattle.lpt_memory.specs.Readings.{Job}
use Rattle.lpt_events.specs.declared.config.Config.{Config}
use Rattle.lpt_acts.specs.Acts.{Commit}
use Rattle.lpt_events.specs.declared.reply.Answer.{Answer}
use Rattle.lpt_events.specs.declared.reply.Answer.TheVariants.{Committed, Stale}
use Rattle.lpt_events.specs.declared.side.Side.TheVariants.{Craft}
use Rattle.lpt_events.specs.declared.worker.Worker.{Worker}
use Rattle.lpt_journal.specs.Jobs.{boot, ticket, commits, is_committed}
use Rattle.lpt_journal.specs.Journal.{History}
use Rattle.lpt_journal.specs.Replies.{committed_now, entry}
use Rattle.lpt_journal.specs.Work.{commit_answer}

-- what holds of both answers to a commit holds of its answer
pub commit_says : (P : Answer → Type 0) (boot : ℕ) (o : Option Job)
    → ((b n : ℕ) → P (Committed b n))
    → ((b n : ℕ) → P (Stale b n))
    → P (committed_now boot o)
commit_says P boot None done stale = done 0 0
commit_says P boot (Some t) done stale = go (t.boot == boot) where
  go : (b : Bool) → P (if b then Committed t.boot t.job else Stale t.boot t.job)
  go true = done t.boot t.job
  go false = stale t.boot t.job

-- the answer to the commit of this job, by whether it is of the present boot
pub commit_is : (boot : ℕ) (t : Job)
    → committed_now boot (Some t) ≡ commit_answer (not (t.boot == boot)) t
commit_is boot t = go (t.boot == boot) where
  go : (b : Bool)
      → (if b then Committed t.boot t.job else Stale t.boot t.job) ≡ commit_answer (not b) t
  go true = refl
  go false = refl

-- the job of a commit is committed after it where it is of the present boot
pub committed_then : (c : Config) (first : Contents) (h : History) (w : Worker) (t : Job) (n : ℕ)
    → ticket c h w ≡ Some t
    → is_committed (entry c first h (Commit w) ∷ h) n
    ≡ ((t.boot == boot h Craft && t.job == n) || is_committed h n)
committed_then c first h w t n is =
    ap (λ o. commits (committed_now (boot h Craft) o) n || is_committed h n) is
    ∙ ap (λ b. b || is_committed h n) (go (t.boot == boot h Craft))
  where
    go : (b : Bool)
        → commits (if b then Committed t.boot t.job else Stale t.boot t.job) n ≡ (b && t.job == n)
    go true = refl
    go false = refl
