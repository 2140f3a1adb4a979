use Rattle.std.proofs.Common.{◌≡◌, ◌⊎◌, ◌-◌, ℕ, List, length, take, true, false, if◌then◌else◌}
use Rattle.std.specs.Io.KnownBytes.{Keeps}
use Rattle.lpt_stream.specs.Buffers.{cut_of, octets_held, is_ended, is_in_step, Goes, IsAsked}
use Rattle.lpt_stream.specs.Pieces.{begins_by, lookahead}
use Rattle.lpt_stream.proofs.buffer.PacketBuffer.find_piece_passing.Given as goal

-- what was read is held behind the rest
abbrev pub invariant-loop-found : goal.invariant-loop-found
invariant-loop-found g l = record {
  goes : (read : List ℕ) × Goes l.fn.self l.self (g.P.Peer.remaining l.fn.source)
      (g.P.Peer.remaining l.source) read
      × IsAsked (cut_of l.fn.self) (is_in_step l.fn.self) (octets_held l.fn.self) read;
  judged : l.is_judged ≡ true
      → begins_by (cut_of l.self) (is_in_step l.self) (take lookahead (octets_held l.self)) ≡ false;
  told : g.P.Peer.failed l.source ≡ g.P.Peer.failed l.fn.source;
  same : Keeps (g.K.Sink.contents l.fn.out) (g.K.Sink.contents l.out);
  passed : (l.source ≡ l.fn.source) ⊎ (g.K.Sink.flushed l.out ≡ g.K.Sink.contents l.out);
  written : g.K.Sink.failed l.out ≡ g.K.Sink.failed l.fn.out;
}

-- each read brings the end, or so much as is looked at, nearer
abbrev pub decreases-loop-found : goal.decreases-loop-found
decreases-loop-found g l = if is_ended l.self then 0 else 131085 - length (octets_held l.self)
