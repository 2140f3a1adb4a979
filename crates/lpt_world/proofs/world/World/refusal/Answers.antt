-- What the system refuse is what the journal refuses.
use Rattle.std.proofs.Common.{◌∙◌, ap}
use Rattle.lpt_world.specs.Worlds.{Shown, refusal_at}
use Rattle.lpt_world.proofs.WorldLemmas.{refusal_at_shown}
use Rattle.lpt_world.proofs.world.World.refusal.Goals as goal

pub returns : goal.returns
returns c =
    c.refusal.ensures
    ∙ refusal_at_shown c.self.inside.system c.self.inside.first c.self.inside.journal.items c.args.seat c.args.event.now c.self.invariant c.if-seat-gt-LAST_SEAT.false
    ∙ ap (λ (w : Shown). refusal_at w c.args.seat c.args.event.now) c.self.view_is
