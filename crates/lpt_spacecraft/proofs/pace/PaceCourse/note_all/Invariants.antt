use Rattle.std.proofs.Common.{◌≡◌, ◌++◌, drop}
use Rattle.lpt_spacecraft.specs.Flights.{uses_of}
use Rattle.lpt_spacecraft.specs.Telling.{all_noted}
use Rattle.lpt_spacecraft.proofs.pace.PaceCourse.note_all.Given as goal

-- what was added, with what is left, is all
abbrev pub invariant-loop-one : goal.invariant-loop-one
invariant-loop-one l = record {
  told : l.told.items ++ all_noted l.craft.node.at (drop l.one-index l.what)
      ≡ l.fn.told.items ++ all_noted l.craft.node.at l.what;
  uses : l.self.uses.items
      ++ uses_of l.fn.self.pace.reuse l.craft.node.at.clock (drop l.one-index l.what)
      ≡ l.fn.self.uses.items
      ++ uses_of l.fn.self.pace.reuse l.craft.node.at.clock l.what;
  pace : l.self.pace ≡ l.fn.self.pace;
  since : l.self.since ≡ l.fn.self.since;
}
