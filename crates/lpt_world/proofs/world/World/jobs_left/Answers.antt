-- As many jobs wait as the journal says.
use Rattle.std.proofs.Common.{◌∙◌, ap, ◌-◌, length}
use Rattle.lpt_journal.specs.Jobs.{jobs, jobs_claimed}
use Rattle.lpt_system.specs.SystemInside.{state_of}
use Rattle.lpt_world.specs.Worlds.{Shown, history, history_of}
use Rattle.lpt_world.proofs.WaitingLemmas.{waiting_shown}
use Rattle.lpt_world.proofs.LegalLemmas.{jobs_fit}
use Rattle.lpt_world.proofs.world.World.jobs_left.Goals as goal

pub returns : goal.returns
returns c =
    let e = c.self.inside.system in
    let first = c.self.inside.first in
    let j = c.self.inside.journal.items in
    c.waiting.ensures
    ∙ waiting_shown e.config first (state_of e) (history_of e.config first j)
    c.self.invariant.shows (jobs_fit e.config first j c.self.invariant.told)
    ∙ ap (λ (w : Shown). length (jobs w.config (history w)) - jobs_claimed (history w))
    c.self.view_is
