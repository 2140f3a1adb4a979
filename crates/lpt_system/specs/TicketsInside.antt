-- The workers' jobs as the machine has them.
use Rattle.std.specs.Option.{option_map}
use Rattle.lpt_memory.specs.Readings.{Job}
use Rattle.lpt_model.specs.Tickets.{Tickets}
use Rattle.lpt_system.specs.declared.tickets.HeldJob.{HeldJob}
use Rattle.lpt_system.specs.declared.tickets.Tickets.{Tickets as Held}

-- a job that a worker has
abbrev pub job_of : HeldJob → Job
job_of h = record { boot = h.boot; job = h.job; message = h.message }

-- what both workers have
abbrev pub tickets_of : Held → Tickets
tickets_of t = record { w1 = option_map job_of t.w1; w2 = option_map job_of t.w2 }
