-- The job that is claimed next is the one that the journal says, and the jobs that wait or aren't
-- executed are as many as it says.
use Rattle.std.proofs.Common.{arith, ◌≡◌, ◌∙◌, ap, refl, ℕ, ◌-◌, true, List, length, drop, slice_get, Option, Some, None, is_some}
use Rattle.std.specs.Option.{option_map}
use Rattle.std.proofs.lemmas.List.{length-drop, length-map}
use Rattle.std.proofs.lemmas.Option.{slice_get-map}
use Rattle.lpt_memory.specs.Memories.{Contents}
use Rattle.lpt_memory.specs.Readings.{Job}
use Rattle.lpt_jobs.specs.Jobs.{claimed_in, oldest_unclaimed}
use Rattle.lpt_events.specs.declared.config.Config.{Config}
use Rattle.lpt_events.specs.declared.entry.Release.{Release}
use Rattle.lpt_events.specs.declared.side.Side.TheVariants.{Craft}
use Rattle.lpt_node.specs.Faults.{node_fault}
use Rattle.lpt_node.specs.Jobs.{refusal_claim_of}
use Rattle.lpt_node.specs.Nodes.{NodeData}
use Rattle.lpt_journal.specs.Journal.{History}
use Rattle.lpt_journal.specs.Jobs.{boot, jobs, jobs_claimed, jobs_applied, job_given, ticket}
use Rattle.lpt_refinement.specs.Shows.{Shows, JobsFit, job_shown}
use Rattle.lpt_model.specs.State.{State, refusal_claim_by}
use Rattle.lpt_refinement.specs.Views.{jobs_view, views}
use Rattle.lpt_refinement.proofs.JobsShown.{was_claimed-job_shown}
use Rattle.lpt_refinement.proofs.WorkersShown.{unclaimed_shown}
use Rattle.lpt_refinement.proofs.QueueLemmas.{claimed_in-jobs_from}
use Rattle.lpt_world.proofs.LegalLemmas.{length-jobs_from}

-- ---- claims

-- a job that waits, in a boot
abbrev pub named : ℕ → ℕ × List ℕ → Job
named b x = record { boot = b; job = x.0; message = x.1 }

-- the oldest job that waits is the next one of the journal
pub next_shown : (c : Config) (first : Contents) (s : State) (h : History)
    → Shows s (views c first h)
    → JobsFit (jobs_view c first h) (ticket c h)
    → option_map (named s.on_craft.boot) (oldest_unclaimed s.on_craft.jobs) ≡ job_given c h
next_shown c first s h k fits =
    ap (option_map (named s.on_craft.boot))
    (unclaimed_shown fits.executed fits.claimed k.jobs
    ∙ ap (option_map {U = ℕ × List ℕ} (λ m. (jobs_claimed h, m)))
    (slice_get-map (λ (r : Release). r.message) (jobs c h) (jobs_claimed h)))
    ∙ go (slice_get (jobs c h) (jobs_claimed h)) where
      go : (o : Option Release)
          → option_map (named s.on_craft.boot)
          (option_map {U = ℕ × List ℕ} (λ m. (jobs_claimed h, m))
          (option_map (λ (r : Release). r.message) o))
          ≡ option_map
          (λ (r : Release).
          record { boot = boot h Craft; job = jobs_claimed h; message = r.message }) o
      go None = refl
      go (Some r) = ap (λ b. Some (named b (jobs_claimed h, r.message))) k.craft.boot

-- where a claim isn't refused, a job waits
pub one_waits : (d : NodeData) (t : Option Job)
    → refusal_claim_by d t ≡ None
    → is_some (oldest_unclaimed d.jobs) ≡ true
one_waits d (Some t) e = absurd cc
one_waits d None e = go (oldest_unclaimed d.jobs) e where
  go : (u : Option (ℕ × List ℕ))
      → option_map node_fault (refusal_claim_of u) ≡ None
      → is_some u ≡ true
  go None e = absurd cc
  go (Some x) e = refl

pub not_none : {A : Type 0} (o : Option A) → is_some o ≡ true → ¬ (None ≡ o)
not_none None e f = absurd cc
not_none (Some x) e f = absurd cc

-- ---- how many

-- the queue has the jobs that aren't executed
pub queued_shown : (c : Config) (first : Contents) (s : State) (h : History)
    → Shows s (views c first h)
    → length s.on_craft.jobs.jobs ≡ length (jobs c h) - jobs_applied h
queued_shown c first s h k =
    let v = jobs_view c first h in
    omega (
      arith,
      ap length k.jobs.jobs,
      length-jobs_from (job_shown v) v.applied (drop v.applied v.messages),
      length-drop v.applied v.messages,
      length-map (jobs c h) (λ (r : Release). r.message),
    )

-- behind the claimed jobs stand those that wait
pub waiting_shown : (c : Config) (first : Contents) (s : State) (h : History)
    → Shows s (views c first h)
    → JobsFit (jobs_view c first h) (ticket c h)
    → length s.on_craft.jobs.jobs - claimed_in s.on_craft.jobs.jobs ≡ length (jobs c h)
    - jobs_claimed h
waiting_shown c first s h k fits =
    let v = jobs_view c first h in
    omega (
      arith,
      queued_shown c first s h k,
      ap claimed_in k.jobs.jobs,
      claimed_in-jobs_from (job_shown v) v.claimed v.applied (drop v.applied v.messages)
          (was_claimed-job_shown v) fits.executed
          (omega (arith, length-drop v.applied v.messages, fits.executed, fits.claimed)),
      fits.executed,
      fits.claimed,
      length-map (jobs c h) (λ (r : Release). r.message),
    )
