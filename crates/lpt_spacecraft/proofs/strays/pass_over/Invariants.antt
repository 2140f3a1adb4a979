use Rattle.std.proofs.Common.{◌≡◌}
use Rattle.std.specs.Io.KnownBytes.{Keeps}
use Rattle.lpt_spacecraft.proofs.StrayLemmas.{Passes}
use Rattle.lpt_spacecraft.proofs.strays.pass_over.Given as goal

-- so many octets were passed over
abbrev pub invariant-loop-len : goal.invariant-loop-len
invariant-loop-len g l = record {
  passes : Passes l.fn.buffer l.buffer l.len (g.P.Peer.remaining l.fn.peer)
      (g.P.Peer.remaining l.peer);
  reader : g.P.Peer.failed l.peer ≡ g.P.Peer.failed l.fn.peer;
  same : Keeps (g.K.Sink.contents l.fn.out) (g.K.Sink.contents l.out);
  writer : g.K.Sink.failed l.out ≡ g.K.Sink.failed l.fn.out;
}
