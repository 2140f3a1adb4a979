-- What is prepared outside a world of the jobs that workers have.
use Rattle.std.specs.Prelude.{◌≡◌, Some}
use Rattle.std.specs.Option.{option_map}
use Rattle.lpt_memory.specs.Readings.{ReadJob}
use Rattle.lpt_system.specs.Outside.{reading_for}
use Rattle.lpt_events.specs.declared.worker.Worker.{Worker}
use Rattle.lpt_journal.specs.Jobs.{ticket}
use Rattle.lpt_world.specs.Worlds.{Shown, history}

-- what was prepared is the reading of the job that the worker has
abbrev pub IsOfWorker : Shown → Worker → ReadJob → Type 0
IsOfWorker w v x =
    option_map (reading_for w.config w.first) (ticket w.config (history w) v) ≡ Some x
