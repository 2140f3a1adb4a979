-- The jobs that the workers have: one is given, or taken back.
use Rattle.std.proofs.Common.{◌≡◌, if◌then◌else◌, Option}
use Rattle.lpt_events.specs.declared.worker.Worker.{Worker}
use Rattle.lpt_events.specs.declared.worker.Worker.TheVariants.{W1, W2}
use Rattle.lpt_events.specs.Workers.{same_worker}
use Rattle.lpt_memory.specs.Readings.{Job}
use Rattle.lpt_model.specs.Tickets.{Tickets, ticket_of, with_ticket}

-- one worker has another job, or none, and the other worker has what it had
pub ticket_set : {ts : Tickets} {of : Worker → Option Job} (w : Worker) (t new : Option Job)
    → t ≡ new
    → ((v : Worker) → ticket_of ts v ≡ of v)
    → (v : Worker)
    → ticket_of (with_ticket ts w t) v ≡ (if same_worker w v then new else of v)
ticket_set W1 t new e k W1 = e
ticket_set W1 t new e k W2 = k W2
ticket_set W2 t new e k W1 = k W1
ticket_set W2 t new e k W2 = e
