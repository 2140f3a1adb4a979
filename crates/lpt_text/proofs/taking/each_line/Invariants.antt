use Rattle.std.proofs.Common.{◌≡◌, ◌+◌, length, false}
use Rattle.lpt_text.specs.Lines.{octets_held, room_of}
use Rattle.lpt_text.proofs.TakeLemmas.{Takes}
use Rattle.lpt_text.proofs.taking.each_line.Given as goal

-- all that was passed over was taken
abbrev pub invariant-loop-place : goal.invariant-loop-place
invariant-loop-place g l = record {
  takes : Takes g.T.LineTaker.story l.fn.taker l.taker l.is_taken l.number l.failed
      (octets_held l.lines)
      (room_of l.lines)
      (g.S.Source.remaining l.fn.source) (g.S.Source.remaining l.source)
      (g.K.Sink.contents l.fn.out) (g.K.Sink.contents l.out);
  going : g.T.LineTaker.is_over l.taker ≡ false;
  heard : g.S.Source.failed l.source ≡ g.S.Source.failed l.fn.source;
  written : g.K.Sink.failed l.out ≡ g.K.Sink.failed l.fn.out;
}

-- each piece takes some of what is held, and each read some of the room
abbrev pub decreases-loop-place : goal.decreases-loop-place
decreases-loop-place g l = length (octets_held l.lines) + room_of l.lines
