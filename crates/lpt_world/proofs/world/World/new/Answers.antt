-- A new world shows the empty journal.
use Rattle.std.proofs.Common.{◌∙◌, ap, refl}
use Rattle.lpt_model.specs.State.{no_state}
use Rattle.lpt_world.proofs.WorldLemmas.{shown_new}
use Rattle.lpt_world.proofs.world.World.new.Goals as goal

pub invariant_of-world : goal.invariant_of-world
invariant_of-world c =
    rw c.new-in-Ok-new.ensures.items
    (shown_new c.in-Ok-new.system c.args.config c.args.memories c.in-Ok-new.ensures.0
    (c.in-Ok-new.ensures.1 ∙ ap (no_state c.args.config) c.in-Ok.ensures)
    (c.in-None.ensures.in_range.0 refl))
