-- A memory is what the journal says, and what holds of all memories holds.
use Rattle.std.proofs.Common.{◌∙◌, ap, subst}
use Rattle.lpt_memory.specs.Memories.{content_of}
use Rattle.lpt_journal.specs.Headline.{EachIsOfGround, MemoriesFollow}
use Rattle.lpt_world.specs.Worlds.{Shown, history, memories_now}
use Rattle.lpt_world.proofs.ToldLemmas.{shown_holds}
use Rattle.lpt_world.proofs.world.World.memory.Goals as goal

pub returns-clause-content : goal.returns-clause-content
returns-clause-content c =
    c.content.ensures
    ∙ ap (content_of c.args.id) c.self.invariant.shows.memories
    ∙ ap (λ (w : Shown). content_of c.args.id (memories_now w)) c.self.view_is

pub returns-clause-follow : goal.returns-clause-follow
returns-clause-follow c =
    subst (λ (w : Shown). MemoriesFollow w.config w.first (history w)) c.self.view_is
    (shown_holds c.self.inside.system c.self.inside.first c.self.inside.journal.items
    c.self.invariant).memories

pub returns-clause-of_ground : goal.returns-clause-of_ground
returns-clause-of_ground c =
    subst (λ (w : Shown). EachIsOfGround w.config (history w)) c.self.view_is
    (shown_holds c.self.inside.system c.self.inside.first c.self.inside.journal.items
    c.self.invariant).of_ground
