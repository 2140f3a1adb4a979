-- A number other than the changed job's has its own place.
use Rattle.std.proofs.Common.{◌≡◌, ◌≢◌, refl, ℕ, ◌-◌, ◌≤◌, Bool, true, false, if◌then◌else◌, None, nat_lt, set, arith}
use Rattle.std.specs.List.{slice_get}
use Rattle.std.specs.Option.{option_map_or}
use Rattle.std.proofs.lemmas.Bool.{false≢true}
use Rattle.std.proofs.lemmas.Bool.Decides.{nat_tests}
use Rattle.lpt_jobs.specs.declared.job.Job.{Job}
use Rattle.lpt_jobs.specs.declared.job.Job.TheVariants.{Claimed, Committed}
use Rattle.lpt_jobs.specs.Jobs.{Jobs, claimed_in, job_at, is_out, is_claimed}
use Rattle.lpt_jobs.proofs.JobsLemmas.{other-jobs}
use Rattle.lpt_jobs.proofs.laws.changes_one_job.Goals as goal

-- a job of another number is as it was, where the changed one stands at place i
at_other : (q : Jobs) (n i : ℕ) (j : Job)
    → (q.first ≤ n → n - q.first ≢ i)
    → job_at (record q { jobs = set q.jobs i j }) n ≡ job_at q n
at_other q n i j other = go (nat_lt n q.first) refl where
  go : (past : Bool)
      → nat_lt n q.first ≡ past
      → (if past then None else slice_get (set q.jobs i j) (n - q.first))
      ≡ (if past then None else slice_get q.jobs (n - q.first))
  go true e = refl
  go false e =
      let least : q.first ≤ n = grind (arith, nat_tests) in
      other-jobs q.jobs i (n - q.first) j (other least)

-- a number that is claimed isn't before the first
is_behind : (q : Jobs) (n : ℕ) → is_claimed q n ≡ true → q.first ≤ n
is_behind q n is = by (nat_lt n q.first) refl is where
  by : (past : Bool)
      → nat_lt n q.first ≡ past
      → option_map_or is_out (if past then None else slice_get q.jobs (n - q.first)) false ≡ true
      → q.first ≤ n
  by true e is = absurd (false≢true is)
  by false e is = grind (arith, nat_tests)

pub returns-clause-claim : goal.returns-clause-claim
returns-clause-claim c q n other =
    at_other q n (claimed_in q.jobs) Claimed (λ least e. other (omega arith))

pub returns-clause-commit : goal.returns-clause-commit
returns-clause-commit c q n k reading is other =
    let behind = is_behind q n is in
    at_other q k (n - q.first) (Committed reading) (λ least e. other (omega arith))
