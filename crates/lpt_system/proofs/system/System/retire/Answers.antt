-- Each end may free the name.
use Rattle.lpt_system.specs.SystemInside.{state_of}
use Rattle.lpt_system.proofs.RetireLemmas.{both_may}
use Rattle.lpt_system.proofs.system.System.retire.Goals as goal

pub retire-requires : goal.retire-requires
retire-requires c =
    rw c.args.self.now.sound.ground_side
    (both_may (state_of c.args.self.now) c.args.direction c.args.name c.requires).0

pub retire-requires-2 : goal.retire-requires-2
retire-requires-2 c =
    rw c.args.self.now.sound.craft_side
    (both_may (state_of c.args.self.now) c.args.direction c.args.name c.requires).1
