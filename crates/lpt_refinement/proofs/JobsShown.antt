-- The spacecraft's queue shows the journal's jobs: a release, and the job at the front.
use Rattle.std.proofs.Common.{◌≡◌, ◌∙◌, ap, sym, subst, refl, ℕ, ◌+◌, ◌≤◌, nat_lt, Bool, true, false, if◌then◌else◌, List, [], ◌∷◌, ◌++◌, length, map, drop, arith, length-drop}
use Rattle.std.specs.Prelude.{slice_get}
use Rattle.std.proofs.lemmas.List.{drop-append-le, map-append}
use Rattle.lpt_events.specs.declared.entry.Release.{Release}
use Rattle.lpt_jobs.specs.declared.job.Job.TheVariants.{Waiting, Claimed, Committed}
use Rattle.lpt_jobs.specs.Jobs.{Jobs, was_claimed, head_of, after_push, without_front}
use Rattle.lpt_refinement.specs.Shows.{Shows, ShowsJobs, job_shown, jobs_from}
use Rattle.lpt_model.specs.State.{State}
use Rattle.lpt_refinement.specs.Views.{Views, JobsView}
use Rattle.lpt_refinement.proofs.Fields.{with_jobs}
use Rattle.lpt_refinement.proofs.QueueLemmas.{slice_get-drop, drop_one, jobs_from-append, drop-jobs_from, head_from, head_of-jobs_from}
use Rattle.lpt_packet.proofs.Readings.{lt_false}

-- ---- one job

-- a job was claimed where its number is below that of the next to be claimed
pub was_claimed-job_shown : (v : JobsView) (i : ℕ) (m : List ℕ)
    → was_claimed (job_shown v i m) ≡ nat_lt i v.claimed
was_claimed-job_shown v i m = go (nat_lt i v.claimed) (v.committed i) where
  go : (t u : Bool)
      → was_claimed
      (if t then
      (if u then Committed (record { apid = v.apid; sizes = v.sizes; message = m }) else Claimed)
      else Waiting m)
      ≡ t
  go true true = refl
  go true false = refl
  go false u = refl

-- the job by its tests
pub job_is : (v : JobsView) (i : ℕ) (m : List ℕ) (t u : Bool)
    → nat_lt i v.claimed ≡ t
    → v.committed i ≡ u
    → job_shown v i m
    ≡ (if t then
    (if u then Committed (record { apid = v.apid; sizes = v.sizes; message = m }) else Claimed)
    else Waiting m)
job_is v i m t u e f =
    λ j. if e j then
    (if f j then Committed (record { apid = v.apid; sizes = v.sizes; message = m }) else Claimed)
    else Waiting m

-- ---- a release

-- a message is released: its job is the last, and waits
push_shown : {x : Jobs} {v : JobsView} (m : List ℕ)
    → v.applied ≤ v.claimed
    → v.claimed ≤ length v.messages
    → ShowsJobs x v
    → ShowsJobs (after_push x m) (record v { messages = v.messages ++ m ∷ [] })
push_shown {x = x} {v = v} m least most k = record {
  first = k.first;
  jobs =
      ap (λ js. js ++ Waiting m ∷ []) k.jobs
      ∙ ap (λ a. jobs_from (job_shown v) v.applied rest ++ a ∷ [])
      (sym (job_is v at m false (v.committed at) waits refl))
      ∙ sym (jobs_from-append (job_shown v) v.applied rest m at refl)
      ∙ ap (λ ms. jobs_from (job_shown v) v.applied ms)
      (sym (drop-append-le v.applied v.messages (m ∷ []) (omega arith)));
} where
  rest : List (List ℕ)
  rest = drop v.applied v.messages

  at : ℕ
  at = v.applied + length rest

  waits : nat_lt at v.claimed ≡ false
  waits = lt_false at v.claimed (omega (arith, length-drop v.applied v.messages))

-- the spacecraft releases a message, which is behind the released ones
pub with_release : {s : State} {v : Views} (rs : List Release) (r : Release)
    → v.jobs.messages ≡ map (λ r. r.message) rs
    → v.jobs.applied ≤ v.jobs.claimed
    → v.jobs.claimed ≤ length v.jobs.messages
    → Shows s v
    → Shows
    (record s { on_craft = record s.on_craft { jobs = after_push s.on_craft.jobs r.message } })
    (record v { jobs = record v.jobs { messages = map (λ r. r.message) (rs ++ r ∷ []) } })
with_release {s = s} {v = v} rs r e least most k =
    subst (λ (ms : List (List ℕ)).
    Shows
    (record s { on_craft = record s.on_craft { jobs = after_push s.on_craft.jobs r.message } })
    (record v { jobs = record v.jobs { messages = ms } }))
    (ap (λ ms. ms ++ r.message ∷ []) e ∙ sym (map-append (λ r. r.message) rs (r ∷ [])))
    (with_jobs k (push_shown r.message least most k.jobs) refl)

-- ---- the front

-- the oldest job stands at the front
pub front_shown : {x : Jobs} {v : JobsView}
    → ShowsJobs x v
    → head_of x.jobs ≡ head_from (job_shown v v.applied) (slice_get v.messages v.applied)
front_shown {x = x} {v = v} k =
    ap head_of k.jobs
    ∙ head_of-jobs_from (job_shown v) v.applied (drop v.applied v.messages)
    ∙ ap (head_from (job_shown v v.applied))
    (slice_get-drop v.messages v.applied 0 v.applied (omega arith))

-- the job at the front has left
pub pop_shown : {x : Jobs} {v : JobsView}
    → ShowsJobs x v
    → ShowsJobs (without_front x) (record v { applied = v.applied + 1 })
pop_shown {x = x} {v = v} k = record {
  first = ap (λ n. n + 1) k.first;
  jobs =
      ap (λ js. drop 1 js) k.jobs
      ∙ drop-jobs_from (job_shown v) v.applied (drop v.applied v.messages)
      ∙ ap (jobs_from (job_shown v) (v.applied + 1)) (drop_one v.messages v.applied);
}
