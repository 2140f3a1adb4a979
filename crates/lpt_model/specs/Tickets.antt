-- The jobs that the workers have.
use Rattle.std.specs.Prelude.{Option, None}
use Rattle.lpt_memory.specs.Readings.{Job}
use Rattle.lpt_events.specs.declared.worker.Worker.{Worker}
use Rattle.lpt_events.specs.declared.worker.Worker.TheVariants.{W1, W2}

-- the job that each worker has, with its message
pub record Tickets : Type 0 where
  pub w1 : Option Job
  pub w2 : Option Job

-- no worker has one
abbrev pub no_tickets : Tickets
no_tickets = record { w1 = None; w2 = None }

-- the job that a worker has
abbrev pub ticket_of : Tickets → Worker → Option Job
ticket_of t W1 = t.w1
ticket_of t W2 = t.w2

-- a worker has this job, or none
abbrev pub with_ticket : Tickets → Worker → Option Job → Tickets
with_ticket t W1 job = record t { w1 = job }
with_ticket t W2 job = record t { w2 = job }
