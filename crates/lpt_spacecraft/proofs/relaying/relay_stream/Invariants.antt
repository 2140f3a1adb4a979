use Rattle.std.proofs.Common.{◌≡◌}
use Rattle.lpt_stream.specs.Buffers.{is_ended, is_in_step, octets_held}
use Rattle.lpt_spacecraft.specs.Fronts.{IsCutting}
use Rattle.lpt_spacecraft.proofs.RelayLemmas.{IsRelayed}
use Rattle.lpt_spacecraft.proofs.relaying.relay_stream.Given as goal

-- the stretches that came were handed over
abbrev pub invariant-loop-count : goal.invariant-loop-count
invariant-loop-count g l = record {
  handed : IsRelayed l.fn.passing (g.P.Peer.remaining l.fn.peer) (g.P.Peer.remaining l.peer)
      (g.R.Relay.handed l.fn.relay) (g.R.Relay.handed l.relay) (octets_held l.buffer)
      (is_ended l.buffer) (is_in_step l.buffer) l.count l.place;
  cutting : IsCutting l.fn.passing l.buffer (g.P.Peer.remaining l.peer);
  reader : g.P.Peer.failed l.peer ≡ g.P.Peer.failed l.fn.peer;
}
