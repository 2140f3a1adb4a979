-- The spacecraft's queue shows the journal's jobs: claims and commits.
use Rattle.std.proofs.Common.{◌≡◌, ◌≢◌, ◌∙◌, ap, sym, refl, ℕ, ◌+◌, ◌-◌, ◌≤◌, ◌==◌, nat_lt, true, false, ◌||◌, if◌then◌else◌, IsTrue, List, length, set, drop, Option, Some, None, arith, length-drop}
use Rattle.std.specs.Prelude.{slice_get}
use Rattle.std.specs.Option.{option_map, option_map_or, option_and_then}
use Rattle.std.proofs.lemmas.Bool.Decides.{nat_tests}
use Rattle.lpt_jobs.specs.declared.job.Job.{Job}
use Rattle.lpt_jobs.specs.declared.job.Job.TheVariants.{Claimed, Committed}
use Rattle.lpt_jobs.specs.Jobs.{Jobs, claimed_in, is_out, is_claimed, message_in, oldest_unclaimed, after_claim, after_commit}
use Rattle.lpt_refinement.specs.Shows.{ShowsJobs, IsOut, job_shown, jobs_from}
use Rattle.lpt_refinement.specs.Views.{JobsView}
use Rattle.lpt_refinement.proofs.QueueLemmas.{slice_get-drop, slice_get-jobs_from, set-jobs_from, claimed_in-jobs_from}
use Rattle.lpt_refinement.proofs.JobsShown.{was_claimed-job_shown, job_is}
use Rattle.lpt_packet.proofs.Readings.{lt_false}
use Rattle.lpt_packet.proofs.BoolLemmas.{lt_true}

-- ---- a claim

-- how many jobs stand before the oldest that waits
waiting_at : (v : JobsView)
    → v.applied ≤ v.claimed
    → v.claimed ≤ length v.messages
    → v.applied + claimed_in (jobs_from (job_shown v) v.applied (drop v.applied v.messages))
    ≡ v.claimed
waiting_at v least most =
    claimed_in-jobs_from (job_shown v) v.claimed v.applied (drop v.applied v.messages)
    (was_claimed-job_shown v) least (omega (arith, length-drop v.applied v.messages))

job_taken : (at at' : ℕ) (f : List ℕ → Job) (o : Option (List ℕ))
    → at ≡ at'
    → ((m : List ℕ) → message_in (f m) ≡ Some m)
    → option_map {U = ℕ × List ℕ} (λ m. (at, m))
    (option_and_then message_in (option_map f o))
    ≡ option_map {U = ℕ × List ℕ} (λ m. (at', m)) o
job_taken at at' f None e waits = refl
job_taken at at' f (Some m) e waits =
    λ i. option_map {U = ℕ × List ℕ} (λ q. (e i, q)) (waits m i)

-- the oldest job that waits is the next to be claimed
pub unclaimed_shown : {x : Jobs} {v : JobsView}
    → v.applied ≤ v.claimed
    → v.claimed ≤ length v.messages
    → ShowsJobs x v
    → oldest_unclaimed x ≡ option_map (λ m. (v.claimed, m)) (slice_get v.messages v.claimed)
unclaimed_shown {x = x} {v = v} least most k =
    (λ i. option_map {U = ℕ × List ℕ} (λ m. (k.first i + claimed_in (k.jobs i), m))
    (option_and_then message_in (slice_get (k.jobs i) (claimed_in (k.jobs i)))))
    ∙ ap (λ o. option_map {U = ℕ × List ℕ} (λ m. (v.applied + n, m))
    (option_and_then message_in o))
    (slice_get-jobs_from (job_shown v) v.applied (drop v.applied v.messages) n (v.applied + n) refl
    ∙ ap (option_map (job_shown v (v.applied + n)))
    (slice_get-drop v.messages v.applied n v.claimed (sym (waiting_at v least most))))
    ∙ job_taken (v.applied + n) v.claimed (job_shown v (v.applied + n))
    (slice_get v.messages v.claimed) (waiting_at v least most) waits where
      n : ℕ
      n = claimed_in (jobs_from (job_shown v) v.applied (drop v.applied v.messages))

      past : nat_lt (v.applied + n) v.claimed ≡ false
      past = lt_false (v.applied + n) v.claimed (let e = waiting_at v least most in omega arith)

      waits : (m : List ℕ) → message_in (job_shown v (v.applied + n) m) ≡ Some m
      waits m = ap message_in (job_is v (v.applied + n) m false _ past refl)

-- the oldest job that waits is claimed
pub claim_shown : {x : Jobs} {v : JobsView}
    → v.applied ≤ v.claimed
    → v.claimed ≤ length v.messages
    → v.committed v.claimed ≡ false
    → ShowsJobs x v
    → ShowsJobs (after_claim x) (record v { claimed = v.claimed + 1 })
claim_shown {x = x} {v = v} least most free k = record {
  first = k.first;
  jobs =
      ap (λ js. set js (claimed_in js) Claimed) k.jobs
      ∙ set-jobs_from (job_shown v) (job_shown u) Claimed v.applied (drop v.applied v.messages) n
      v.claimed (sym (waiting_at v least most)) same new;
} where
  n : ℕ
  n = claimed_in (jobs_from (job_shown v) v.applied (drop v.applied v.messages))

  u : JobsView
  u = record v { claimed = v.claimed + 1 }

  same : (i : ℕ) (m : List ℕ) → i ≢ v.claimed → job_shown v i m ≡ job_shown u i m
  same i m other =
      let e : nat_lt i v.claimed ≡ nat_lt i (v.claimed + 1) = grind (arith, nat_tests) in
      job_is v i m _ _ e refl

  new : (m : List ℕ)
      → slice_get (drop v.applied v.messages) n ≡ Some m
      → Claimed ≡ job_shown u v.claimed m
  new m e =
      sym (job_is u v.claimed m true false (lt_true v.claimed (v.claimed + 1) (omega arith)) free)

-- ---- a commit

-- the reading of a job that is out is handed in
pub commit_shown : {x : Jobs} {v : JobsView} (n : ℕ) (m : List ℕ)
    → IsOut v n
    → slice_get v.messages n ≡ Some m
    → ShowsJobs x v
    → ShowsJobs
    (after_commit x n (record { apid = v.apid; sizes = v.sizes; message = m }))
    (record v { committed = λ j. (n == j) || v.committed j })
commit_shown {x = x} {v = v} n m out there k = record {
  first = k.first;
  jobs =
      (λ i. set (k.jobs i) (n - k.first i) handed)
      ∙ set-jobs_from (job_shown v) (job_shown u) handed v.applied (drop v.applied v.messages)
      (n - v.applied) n at same new;
} where
  at : n ≡ v.applied + (n - v.applied)
  at = let a : v.applied ≤ n = out.not_executed in omega arith

  handed : Job
  handed = Committed (record { apid = v.apid; sizes = v.sizes; message = m })

  u : JobsView
  u = record v { committed = λ j. (n == j) || v.committed j }

  same : (i : ℕ) (a : List ℕ) → i ≢ n → job_shown v i a ≡ job_shown u i a
  same i a other =
      let e : (n == i) ≡ false = grind (arith, nat_tests) in
      sym (job_is u i a (nat_lt i v.claimed) (v.committed i) refl (ap (λ t. t || v.committed i) e))

  new : (a : List ℕ)
      → slice_get (drop v.applied v.messages) (n - v.applied) ≡ Some a
      → handed ≡ job_shown u n a
  new a e =
      let self : (n == n) ≡ true = grind (arith, nat_tests) in
      let here : slice_get v.messages n ≡ Some a =
      sym (slice_get-drop v.messages v.applied (n - v.applied) n at) ∙ e in
      let found : ◌≡◌ {A = Option (List ℕ)} (Some m) (Some a) = sym there ∙ here in
      let is : m ≡ a = cc in
      ap (λ q. Committed (record { apid = v.apid; sizes = v.sizes; message = q })) is
      ∙ sym (job_is u n a true true (lt_true n v.claimed out.is_claimed)
      (ap (λ t. t || v.committed n) self))

-- a job that is out is claimed, and no reading of it committed
pub is_out_shown : {x : Jobs} {v : JobsView} (n : ℕ) (m : List ℕ)
    → IsOut v n
    → slice_get v.messages n ≡ Some m
    → ShowsJobs x v
    → IsTrue (is_claimed x n)
is_out_shown {x = x} {v = v} n m out there k =
    (λ i. option_map_or is_out
    (if nat_lt n (k.first i) then None else slice_get (k.jobs i) (n - k.first i)) false)
    ∙ ap (λ t. option_map_or is_out
    (if t then None else slice_get queue (n - v.applied)) false)
    (lt_false n v.applied out.not_executed)
    ∙ ap (λ o. option_map_or is_out o false)
    (slice_get-jobs_from (job_shown v) v.applied (drop v.applied v.messages) (n - v.applied) n at
    ∙ ap (option_map (job_shown v n))
    (slice_get-drop v.messages v.applied (n - v.applied) n at ∙ there))
    ∙ ap is_out (job_is v n m true false (lt_true n v.claimed out.is_claimed) out.not_committed)
  where
    queue : List Job
    queue = jobs_from (job_shown v) v.applied (drop v.applied v.messages)

    at : n ≡ v.applied + (n - v.applied)
    at = let a : v.applied ≤ n = out.not_executed in omega arith
