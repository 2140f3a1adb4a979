use Rattle.std.proofs.Common.{◌≡◌, ◌+◌, ℕ, List, true}
use Rattle.std.specs.Io.KnownBytes.{Appends, Consumes, IsAtEnd}
use Rattle.lpt_stream.specs.Buffers.{is_ended}
use Rattle.lpt_stream.specs.Pieces.{octets_in, up_to_limit}
use Rattle.lpt_stream.proofs.CutLemmas.{IsRead}
use Rattle.lpt_stream.proofs.each.take_pieces.Given as goal

-- the pieces that were read were taken, what they give was written, and the next one stands at this
-- place
abbrev pub invariant-loop-count : goal.invariant-loop-count
invariant-loop-count g l = record {
  read : (stream : List ℕ)
      × Consumes (g.P.Peer.remaining l.fn.source) (g.P.Peer.remaining l.source) stream
      × IsRead (g.T.Taker.cut l.fn.first) (λ pieces.
      g.T.Taker.takes l.fn.from l.fn.first l.taker l.fn.lent l.lent pieces
      × Appends (g.K.Sink.contents l.fn.out) (g.K.Sink.contents l.out)
      (g.T.Taker.writes l.fn.from l.fn.first pieces)
      × (l.place ≡ up_to_limit (l.fn.from + octets_in pieces))) l.buffer stream l.count;
  ended : is_ended l.buffer ≡ true → IsAtEnd (g.P.Peer.remaining l.source);
  same : g.T.Taker.cut l.taker ≡ g.T.Taker.cut l.fn.first;
  reader : g.P.Peer.failed l.source ≡ g.P.Peer.failed l.fn.source;
  writer : g.K.Sink.failed l.out ≡ g.K.Sink.failed l.fn.out;
}
