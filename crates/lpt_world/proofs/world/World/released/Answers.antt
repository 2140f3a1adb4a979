-- What a world shows holds.
use Rattle.std.proofs.Common.{subst}
use Rattle.lpt_journal.specs.Headline.{EachIsLastOpened, AtMostOncePerOpening, EachWasAsked}
use Rattle.lpt_journal.specs.Whole.{WholeIsReleased}
use Rattle.lpt_world.specs.Worlds.{Shown, history}
use Rattle.lpt_world.proofs.ToldLemmas.{shown_holds, shown_promised}
use Rattle.lpt_world.proofs.world.World.released.Goals as goal

pub returns-clause-last_opened : goal.returns-clause-last_opened
returns-clause-last_opened c =
    subst (λ (w : Shown). EachIsLastOpened w.config (history w)) c.self.view_is
    (shown_holds c.self.inside.system c.self.inside.first c.self.inside.journal.items
    c.self.invariant).messages

pub returns-clause-once : goal.returns-clause-once
returns-clause-once c =
    subst (λ (w : Shown). AtMostOncePerOpening w.config (history w)) c.self.view_is
    (shown_holds c.self.inside.system c.self.inside.first c.self.inside.journal.items
    c.self.invariant).once

pub returns-clause-asked : goal.returns-clause-asked
returns-clause-asked c =
    subst (λ (w : Shown). EachWasAsked w.config (history w)) c.self.view_is
    (shown_holds c.self.inside.system c.self.inside.first c.self.inside.journal.items
    c.self.invariant).asked

pub returns-clause-none_withheld : goal.returns-clause-none_withheld
returns-clause-none_withheld c =
    subst (λ (w : Shown). WholeIsReleased w.config (history w)) c.self.view_is
    (shown_promised c.self.inside.system c.self.inside.first c.self.inside.journal.items
    c.self.invariant).whole
