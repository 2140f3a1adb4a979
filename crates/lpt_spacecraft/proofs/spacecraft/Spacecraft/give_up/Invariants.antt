use Rattle.std.proofs.Common.{◌≡◌, ◌++◌}
use Rattle.std.specs.Io.KnownBytes.{Appends}
use Rattle.lpt_stream.specs.Streams.{all_octets}
use Rattle.lpt_spacecraft.specs.Serving.{first_expired}
use Rattle.lpt_spacecraft.specs.Telling.{first_given_up}
use Rattle.lpt_spacecraft.proofs.spacecraft.Spacecraft.give_up.Given as goal

-- so many times what was due was given up
abbrev pub invariant-loop-k : goal.invariant-loop-k
invariant-loop-k g l = record {
  node : l.self.node.at ≡ (first_expired l.fn.self.config l.fn.self.node.at l.k).0;
  written : Appends (g.K.Sink.contents l.fn.out) (g.K.Sink.contents l.out)
      (all_octets (first_expired l.fn.self.config l.fn.self.node.at l.k).1);
  config : l.self.config ≡ l.fn.self.config;
  memories : l.self.memories ≡ l.fn.self.memories;
  jobs : l.self.node.at.jobs ≡ l.fn.self.node.at.jobs;
  given : l.told.items
      ≡ l.fn.told.items ++ first_given_up l.fn.self.config l.fn.self.node.at l.k;
  writer : g.K.Sink.failed l.out ≡ g.K.Sink.failed l.fn.out;
}
