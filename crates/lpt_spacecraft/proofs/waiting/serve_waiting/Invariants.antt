use Rattle.std.proofs.Common.{◌≡◌}
use Rattle.lpt_spacecraft.specs.Keeping.{IsKeptAs}
use Rattle.lpt_spacecraft.specs.Streams.{IsIdle}
use Rattle.lpt_spacecraft.proofs.TurnLemmas.{IsAttended}
use Rattle.lpt_spacecraft.proofs.waiting.serve_waiting.Given as goal

-- the turns that came were taken, and nothing waits
abbrev pub invariant-loop-count : goal.invariant-loop-count
invariant-loop-count g l = record {
  taken : IsAttended l.fn.pace l.fn.craft l.craft l.course (record {
    was = g.I.Inlet.given l.fn.inlet;
    gave = g.I.Inlet.given l.inlet;
    old = g.K.Sink.contents l.fn.out;
    new = g.K.Sink.contents l.out;
    asked = g.C.Clock.answers l.fn.clock;
    answered = g.C.Clock.answers l.clock;
    had = g.L.Listener.heard l.fn.listener;
    has = g.L.Listener.heard l.listener;
  }) l.count;
  idle : IsIdle l.craft;
  kept : IsKeptAs (g.H.Keeper.kept l.keeper) l.craft;
  config : l.craft.config ≡ l.fn.craft.config;
  reader : g.I.Inlet.failed l.inlet ≡ g.I.Inlet.failed l.fn.inlet;
  writer : g.K.Sink.failed l.out ≡ g.K.Sink.failed l.fn.out;
}
