use Rattle.std.proofs.Common.{◌≡◌, Some}
use Rattle.lpt_spacecraft.specs.Flights.{clock_ticks, inputs_served}
use Rattle.lpt_spacecraft.specs.Streams.{flight_of, Flies, IsIdle}
use Rattle.lpt_spacecraft.proofs.flying.tick_all.Given as goal

-- so many ticks came
abbrev pub invariant-loop-k : goal.invariant-loop-k
invariant-loop-k g l = record {
  flies : Flies
      (inputs_served l.fn.craft.config (flight_of l.fn.craft l.fn.course) (clock_ticks l.k))
      l.craft l.course (g.K.Sink.contents l.fn.out) (g.K.Sink.contents l.out)
      (Some l.fn.told.items) (Some l.told.items);
  idle : IsIdle l.craft;
  jobs : l.craft.node.at.jobs ≡ l.fn.craft.node.at.jobs;
  since : l.course.since ≡ l.fn.course.since;
  pace : l.course.pace ≡ l.fn.course.pace;
  config : l.craft.config ≡ l.fn.craft.config;
  memories : l.craft.memories ≡ l.fn.craft.memories;
  writer : g.K.Sink.failed l.out ≡ g.K.Sink.failed l.fn.out;
}
