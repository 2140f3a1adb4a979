-- What the link holds of a transaction is what the journal says.
use Rattle.std.proofs.Common.{◌∙◌, ap, ◌||◌}
use Rattle.lpt_journal.specs.Clear.{part_held, part_in_hand}
use Rattle.lpt_refinement.proofs.ClearShown.{holds_shown}
use Rattle.lpt_system.specs.SystemInside.{state_of}
use Rattle.lpt_world.specs.Worlds.{Shown, history, history_of}
use Rattle.lpt_world.proofs.ToldLemmas.{shown_named}
use Rattle.lpt_world.proofs.world.World.is_under_way.Goals as goal

pub returns : goal.returns
returns c =
    let e = c.self.inside.system in
    let first = c.self.inside.first in
    let j = c.self.inside.journal.items in
    c.holds.ensures
    ∙ holds_shown e.config first (state_of e) (history_of e.config first j) c.args.direction c.args.name
    c.self.invariant.shows (shown_named e first j c.self.invariant)
    ∙ ap (λ (w : Shown). part_held w.config (history w) c.args.direction c.args.name
    || part_in_hand w.config (history w) c.args.direction c.args.name) c.self.view_is
