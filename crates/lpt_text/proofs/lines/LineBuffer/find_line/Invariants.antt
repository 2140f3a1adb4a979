use Rattle.std.proofs.Common.{◌≡◌, ◌≤◌, ◌⊎◌, ℕ, List, [], None, length, take}
use Rattle.std.specs.Io.KnownBytes.{Keeps}
use Rattle.lpt_text.specs.Lines.{octets_held, room_of, line_end, Adds}
use Rattle.lpt_text.proofs.lines.LineBuffer.find_line.Given as goal

-- what was searched has no line end
abbrev pub invariant-loop-place : goal.invariant-loop-place
invariant-loop-place g l = record {
  added : (read : List ℕ) × Adds l.fn.self l.self (g.S.Source.remaining l.fn.source)
      (g.S.Source.remaining l.source) read [];
  told : g.S.Source.failed l.source ≡ g.S.Source.failed l.fn.source;
  same : Keeps (g.K.Sink.contents l.fn.out) (g.K.Sink.contents l.out);
  passed : (l.source ≡ l.fn.source) ⊎ (g.K.Sink.flushed l.out ≡ g.K.Sink.contents l.out);
  written : g.K.Sink.failed l.out ≡ g.K.Sink.failed l.fn.out;
  within : l.searched ≤ length (octets_held l.self);
  none : line_end (take l.searched (octets_held l.self)) ≡ None;
}

-- each read takes some of the room
abbrev pub decreases-loop-place : goal.decreases-loop-place
decreases-loop-place g l = room_of l.self
