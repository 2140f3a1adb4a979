use Rattle.std.proofs.Common.{◌≡◌}
use Rattle.lpt_stream.specs.Buffers.{is_ended, is_in_step, octets_held}
use Rattle.lpt_spacecraft.specs.Fronts.{IsCutting}
use Rattle.lpt_spacecraft.specs.Keeping.{IsKeptAs}
use Rattle.lpt_spacecraft.specs.Streams.{IsIdle}
use Rattle.lpt_spacecraft.proofs.EventLemmas.{IsServed}
use Rattle.lpt_spacecraft.proofs.serving.serve_stream.Given as goal

-- the packets that came were taken, and nothing waits
abbrev pub invariant-loop-count : goal.invariant-loop-count
invariant-loop-count g l = record {
  served : IsServed l.fn.pace l.fn.craft l.craft l.course (record {
    before = g.P.Peer.remaining l.fn.peer;
    after = g.P.Peer.remaining l.peer;
    old = g.K.Sink.contents l.fn.out;
    new = g.K.Sink.contents l.out;
    asked = g.C.Clock.answers l.fn.clock;
    answered = g.C.Clock.answers l.clock;
    had = g.L.Listener.heard l.fn.listener;
    has = g.L.Listener.heard l.listener;
  }) (octets_held l.buffer) (is_ended l.buffer) (is_in_step l.buffer) l.count l.place;
  cutting : IsCutting l.fn.pace.passing l.buffer (g.P.Peer.remaining l.peer);
  idle : IsIdle l.craft;
  kept : IsKeptAs (g.H.Keeper.kept l.keeper) l.craft;
  config : l.craft.config ≡ l.fn.craft.config;
  reader : g.P.Peer.failed l.peer ≡ g.P.Peer.failed l.fn.peer;
  writer : g.K.Sink.failed l.out ≡ g.K.Sink.failed l.fn.out;
}
