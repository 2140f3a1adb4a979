-- How what is seen of a queue is coded: the values of models are data.
use Rattle.std.specs.Prelude.{◌≡◌, ◌⊎◌, ℕ, List, Option, Some, None, refl}
use mathlib.Core.Logic.{inl, inr}
use Rattle.std.specs.Coded.{Coded, code_by, coded×, coded⊎, coded_ℕ, coded_list, coded_option}
use Rattle.lpt_memory.specs.Readings.{Source}
use Rattle.lpt_jobs.specs.declared.job.Job.{Job}
use Rattle.lpt_jobs.specs.declared.job.Job.TheVariants.{Waiting, Claimed, Committed}
use Rattle.lpt_jobs.specs.Jobs.{Jobs}

-- the code of a reading
abbrev pub coded_source : Coded Source
coded_source =
    code_by (ℕ × (List (ℕ × ℕ) × List ℕ))
    (coded× coded_ℕ (coded× (coded_list (coded× coded_ℕ coded_ℕ)) (coded_list coded_ℕ)))
    (λ s. (s.apid, (s.sizes, s.message)))
    (λ q. record { apid = q.0; sizes = q.1.0; message = q.1.1 })
    (λ _. refl)

-- the message of a job that waits, or the reading of another, if there is one
abbrev pub parts_of : Job → List ℕ ⊎ Option Source
parts_of (Waiting m) = inl m
parts_of Claimed = inr None
parts_of (Committed r) = inr (Some r)

-- the job of these
abbrev pub job_of : List ℕ ⊎ Option Source → Job
job_of (inl m) = Waiting m
job_of (inr None) = Claimed
job_of (inr (Some r)) = Committed r

-- the code of a job
abbrev pub coded_job : Coded Job
coded_job =
    code_by (List ℕ ⊎ Option Source) (coded⊎ (coded_list coded_ℕ) (coded_option coded_source))
    parts_of job_of
    (λ j. elim j as (λ x. job_of (parts_of x) ≡ x)
    [ Waiting m ↦ refl | Claimed ↦ refl | Committed r ↦ refl ])

-- the code of the jobs
abbrev pub coded_jobs : Coded Jobs
coded_jobs =
    code_by (ℕ × List Job) (coded× coded_ℕ (coded_list coded_job))
    (λ q. (q.first, q.jobs)) (λ p. record { first = p.0; jobs = p.1 }) (λ _. refl)
