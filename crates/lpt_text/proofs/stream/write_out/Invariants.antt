use Rattle.std.proofs.Common.{length, ◌-◌, ◌≡◌, ◌≤◌, take}
use Rattle.std.specs.Io.KnownBytes.{Appends}
use Rattle.lpt_text.proofs.stream.write_out.Given as goal

-- the writer has gained the text up to `at`, and has not failed since
abbrev pub invariant-loop-at : goal.invariant-loop-at
invariant-loop-at g l = record {
  bound : l.at ≤ length l.text;
  gained : Appends (g.K.Sink.contents l.fn.out) (g.K.Sink.contents l.out) (take l.at l.text);
  told : g.K.Sink.failed l.out ≡ g.K.Sink.failed l.fn.out;
}

abbrev pub decreases-loop-at : goal.decreases-loop-at
decreases-loop-at g l = length l.text - l.at
