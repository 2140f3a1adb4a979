use Rattle.std.proofs.Common.{◌≡◌, length}
use Rattle.lpt_spacecraft.proofs.FlightLemmas.{ClearsOn}
use Rattle.lpt_spacecraft.proofs.pace.PaceCourse.clear.Given as goal

-- the names that were freed are those in front
abbrev pub invariant-loop-used : goal.invariant-loop-used
invariant-loop-used l = record {
  clears : ClearsOn l.fn.self.pace.reuse l.fn.craft.node.at l.craft.node.at
      l.fn.self.uses.items l.self.uses.items l.fn.told.items l.told.items;
  pace : l.self.pace ≡ l.fn.self.pace;
  since : l.self.since ≡ l.fn.self.since;
  memories : l.craft.memories ≡ l.fn.craft.memories;
  config : l.craft.config ≡ l.fn.craft.config;
  jobs : l.craft.node.at.jobs ≡ l.fn.craft.node.at.jobs;
}

-- one name less
abbrev pub decreases-loop-used : goal.decreases-loop-used
decreases-loop-used l = length l.self.uses.items
