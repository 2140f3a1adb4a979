-- In which boot jobs were released.
use Rattle.std.proofs.Common.{◌≡◌, ◌∙◌, ap, sym, ℕ, ◌+◌, ◌≤◌, Bool, true, false, if◌then◌else◌, inl, inr, [], ◌∷◌, length, Some, arith}
use Rattle.std.specs.List.{slice_get}
use Rattle.lpt_events.specs.declared.config.Config.{Config}
use Rattle.lpt_events.specs.declared.entry.Release.{Release}
use Rattle.lpt_events.specs.declared.side.Side.{Side}
use Rattle.lpt_events.specs.declared.side.Side.TheVariants.{Craft}
use Rattle.lpt_journal.specs.Headline.{before}
use Rattle.lpt_journal.specs.Jobs.{boot, jobs, executed_now}
use Rattle.lpt_journal.specs.Journal.{History}
use Rattle.lpt_journal.specs.Releases.{released_by}
use Rattle.lpt_journal.specs.Senders.{restarts}
use Rattle.lpt_journal.proofs.JobLemmas.{in_order}
use Rattle.lpt_journal.proofs.NewJobs.{came_up, new_job, job_cases, executes_one}
use Rattle.lpt_journal.proofs.Releasing.{before_old, before_new}
use Rattle.lpt_journal.proofs.TestLemmas.{IsOldOrNew, no_place}

-- a node was restarted at most as often as something happened
pub boot_few : (h : History) (side : Side) → boot h side ≤ length h
boot_few [] side = omega arith
boot_few (x ∷ h) side = go (restarts x.event side) (boot_few h side) where
  go : (b : Bool)
      → boot h side ≤ length h
      → (if b then boot h side + 1 else boot h side) ≤ length (x ∷ h)
  go true few = omega (arith, few)
  go false few = omega (arith, few)

-- a job was released in the present boot of the spacecraft
pub job_boot : (c : Config) (h : History) (k : ℕ) (r : Release)
    → slice_get (jobs c h) k ≡ Some r
    → boot (before r.place h) Craft ≡ boot h Craft
job_boot c [] k r e = absurd (no_place k r e)
job_boot c (x ∷ h) k r e = go (job_boot c h k r) (job_cases c x h k r e).1 where
  boots : boot (x ∷ h) Craft ≡ boot h Craft
  boots =
      ap (λ b. if b then boot h Craft + 1 else boot h Craft) (job_cases c x h k r e).0

  go : (slice_get (jobs c h) k ≡ Some r → boot (before r.place h) Craft ≡ boot h Craft)
      → IsOldOrNew (jobs c h) (came_up (released_by c x h)) k r
      → boot (before r.place (x ∷ h)) Craft ≡ boot (x ∷ h) Craft
  go had (inl old) =
      let past = (in_order (λ s. s) executed_now executes_one c h).jobs_past k r old in
      ap (λ g. boot g Craft) (before_old h x r.place (omega (arith, past))) ∙ had old ∙ sym boots
  go had (inr fresh) =
      ap (λ g. boot g Craft) (before_new h x r.place (new_job c x h fresh.0 r fresh.2).1)
      ∙ sym boots
