use Rattle.std.proofs.Common.{◌≡◌, ◌+◌, ℕ, List, true}
use Rattle.std.specs.Io.KnownBytes.{Consumes, IsAtEnd}
use Rattle.lpt_stream.specs.Buffers.{is_ended}
use Rattle.lpt_stream.specs.Pieces.{octets_in, up_to_limit}
use Rattle.lpt_stream.proofs.CutLemmas.{IsRead}
use Rattle.lpt_ground_run.specs.Halts.{cut_of, HasHanded}
use Rattle.lpt_ground_run.proofs.cutting.hand_pieces.Given as goal

-- the packets among the pieces that were read were handed over, and the next piece stands at this
-- place
abbrev pub invariant-loop-count : goal.invariant-loop-count
invariant-loop-count g l = record {
  read : (stream : List ℕ)
      × Consumes (g.S.Source.remaining l.fn.source) (g.S.Source.remaining l.source) stream
      × IsRead (cut_of l.fn.first.cutting) (λ pieces.
      HasHanded 0 l.fn.first.cutting l.taker.cutting (g.O.Outlet.is_open l.lent) l.taker.halt
      (g.O.Outlet.handed l.fn.lent) (g.O.Outlet.handed l.lent) (g.O.Outlet.strays l.fn.lent)
      (g.O.Outlet.strays l.lent) pieces
      × (l.place ≡ up_to_limit (0 + octets_in pieces))) l.buffer stream l.count;
  ended : is_ended l.buffer ≡ true → IsAtEnd (g.S.Source.remaining l.source);
  reader : g.S.Source.failed l.source ≡ g.S.Source.failed l.fn.source;
}
