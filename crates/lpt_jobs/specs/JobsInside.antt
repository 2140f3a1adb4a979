-- How a queue keeps its jobs: how many at the front were claimed is kept beside them.
use Rattle.std.specs.Prelude.{◌≡◌, ℕ, ◌+◌, ◌<◌, ◌^◌, List, length}
use Rattle.lpt_jobs.specs.declared.job.Job.{Job}
use Rattle.lpt_jobs.specs.Jobs.{claimed_in, AreInOrder}

-- the count is the jobs' own, they were claimed in order, and each number is one of 64 bits
pub record IsKept (first : ℕ) (jobs : List Job) (claimed : ℕ) : Type 0 where
  pub count : claimed ≡ claimed_in jobs
  pub order : AreInOrder jobs
  pub numbers : first + length jobs < 2 ^ 64
