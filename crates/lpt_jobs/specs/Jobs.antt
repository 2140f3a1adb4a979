-- What a queue of jobs has, and what each call does to it.
use Rattle.std.specs.Prelude.{◌≡◌, ℕ, ◌+◌, ◌-◌, ◌<◌, ◌≤◌, nat_lt, Bool, true, false, if◌then◌else◌, List, [], ◌∷◌, ◌++◌, length, get_or, set, drop, Option, Some, None}
use Rattle.std.specs.List.{slice_get, prefix_len}
use Rattle.std.specs.Option.{option_map, option_map_or, option_and_then}
use Rattle.lpt_memory.specs.Readings.{Source}
use Rattle.lpt_jobs.specs.declared.job.Job.{Job}
use Rattle.lpt_jobs.specs.declared.job.Job.TheVariants.{Waiting, Claimed, Committed}
use Rattle.lpt_jobs.specs.declared.front.Front.{Front}
use Rattle.lpt_jobs.specs.declared.front.Front.TheVariants as front

-- ---- what a queue has

-- the number of the job at the front, or of the next one if there is none, and the jobs that
-- aren't executed, in order of release
pub record Jobs : Type 0 where
  pub first : ℕ
  pub jobs : List Job

-- no jobs, in a boot that hasn't numbered one
abbrev pub no_jobs : Jobs
no_jobs = record { first = 0; jobs = [] }

-- ---- what is asked of it

-- how many jobs have got a number in this boot
abbrev pub jobs_numbered : Jobs → ℕ
jobs_numbered q = q.first + length q.jobs

-- the job of a number
abbrev pub job_at : Jobs → ℕ → Option Job
job_at q n = if nat_lt n q.first then None else slice_get q.jobs (n - q.first)

-- whether a worker has claimed a job
abbrev pub was_claimed : Job → Bool
was_claimed (Waiting m) = false
was_claimed Claimed = true
was_claimed (Committed r) = true

-- how many jobs stand before the oldest that waits
abbrev pub claimed_in : List Job → ℕ
claimed_in jobs = prefix_len was_claimed jobs

-- the number of the job that is claimed next
abbrev pub next_claim : Jobs → ℕ
next_claim q = q.first + claimed_in q.jobs

-- the message of a job that waits
abbrev pub message_in : Job → Option (List ℕ)
message_in (Waiting m) = Some m
message_in Claimed = None
message_in (Committed r) = None

-- the message of the oldest job that waits
abbrev pub oldest : List Job → Option (List ℕ)
oldest jobs = option_and_then message_in (slice_get jobs (claimed_in jobs))

-- the number and the message of the oldest job that waits
abbrev pub oldest_unclaimed : Jobs → Option (ℕ × List ℕ)
oldest_unclaimed q = option_map (λ m. (next_claim q, m)) (oldest q.jobs)

-- whether a worker has a job
abbrev pub is_out : Job → Bool
is_out (Waiting m) = false
is_out Claimed = true
is_out (Committed r) = false

-- whether the job of a number is claimed, and no reading of it committed
abbrev pub is_claimed : Jobs → ℕ → Bool
is_claimed q n = option_map_or is_out (job_at q n) false

-- what stands at the front: no job, one with no reading, or one with this reading
pub data Head : Type 0 where
  NoJob : Head
  NotReady : Head
  Ready : Source → Head

-- what an answer shows
abbrev pub head : Front → Head
head front.Empty = NoJob
head front.NotReady = NotReady
head (front.Ready reading) = Ready reading.now

-- this job at the front
abbrev pub head_by : Job → Head
head_by (Waiting m) = NotReady
head_by Claimed = NotReady
head_by (Committed r) = Ready r

-- what stands at the front of the jobs
abbrev pub head_of : List Job → Head
head_of [] = NoJob
head_of (j ∷ js) = head_by j

-- whether it can be executed
abbrev pub is_ready : Head → Bool
is_ready NoJob = false
is_ready NotReady = false
is_ready (Ready r) = true

-- ---- what the calls do

-- a message is released: its job is the last, and waits
abbrev pub after_push : Jobs → List ℕ → Jobs
after_push q message = record { first = q.first; jobs = q.jobs ++ Waiting message ∷ [] }

-- the youngest job waits
abbrev pub IsPushed : Jobs → Type 0
IsPushed q = (before : Jobs) × (message : List ℕ) × (q ≡ after_push before message)

-- the oldest job that waits is claimed, and its message is the worker's
abbrev pub after_claim : Jobs → Jobs
after_claim q = record { first = q.first; jobs = set q.jobs (claimed_in q.jobs) Claimed }

-- a reading of the job of this number is committed
abbrev pub after_commit : Jobs → ℕ → Source → Jobs
after_commit q n reading = record {
  first = q.first;
  jobs = set q.jobs (n - q.first) (Committed reading);
}

-- the job at the front has left
abbrev pub without_front : Jobs → Jobs
without_front q = record { first = q.first + 1; jobs = drop 1 q.jobs }

-- ---- what is always so

-- from the oldest job that waits on, all wait
abbrev pub AreInOrder : List Job → Type 0
AreInOrder jobs = (k : ℕ) (d : Job) → claimed_in jobs ≤ k → k < length jobs
    → was_claimed (get_or jobs k d) ≡ false
