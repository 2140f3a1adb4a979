use Rattle.std.proofs.Common.{◌≡◌, ◌-◌, length}
use Rattle.std.specs.Io.KnownBytes.{Consumes}
use Rattle.lpt_text.proofs.reading.read_text.Given as goal

-- the text so far is what was consumed, and no read has failed
abbrev pub invariant-loop-chunk : goal.invariant-loop-chunk
invariant-loop-chunk g l = record {
  consumed : Consumes (g.S.Source.remaining l.fn.reader) (g.S.Source.remaining l.reader)
      l.text.items;
  told : g.S.Source.failed l.reader ≡ g.S.Source.failed l.fn.reader;
}

-- what is left to the limit
abbrev pub decreases-loop-chunk : goal.decreases-loop-chunk
decreases-loop-chunk g l = 16777217 - length l.text.items
