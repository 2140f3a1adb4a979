-- As many jobs aren't executed as the journal says.
use Rattle.std.proofs.Common.{◌∙◌, ap, ◌-◌, length}
use Rattle.lpt_journal.specs.Jobs.{jobs, jobs_applied}
use Rattle.lpt_system.specs.SystemInside.{state_of}
use Rattle.lpt_world.specs.Worlds.{Shown, history, history_of}
use Rattle.lpt_world.proofs.WaitingLemmas.{queued_shown}
use Rattle.lpt_world.proofs.world.World.jobs_queued.Goals as goal

pub returns : goal.returns
returns c =
    let e = c.self.inside.system in
    let first = c.self.inside.first in
    let j = c.self.inside.journal.items in
    c.jobs_queued.ensures
    ∙ queued_shown e.config first (state_of e) (history_of e.config first j) c.self.invariant.shows
    ∙ ap (λ (w : Shown). length (jobs w.config (history w)) - jobs_applied (history w))
    c.self.view_is
