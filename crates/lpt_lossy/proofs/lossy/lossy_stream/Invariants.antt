use Rattle.std.proofs.Common.{◌≡◌}
use Rattle.lpt_lossy.proofs.CarryLemmas.{IsAt}
use Rattle.lpt_lossy.proofs.lossy.lossy_stream.Given as goal

-- so many packets were read and carried
abbrev pub invariant-loop : goal.invariant-loop
invariant-loop g l = record {
  at : IsAt l.link.layouts l.fn.dice.odds l.link.most_later (g.S.Source.remaining l.fn.source)
      (g.S.Source.remaining l.source) (g.K.Sink.contents l.fn.out) (g.K.Sink.contents l.out)
      l.buffer l.turns l.dice l.counter;
  reader : g.S.Source.failed l.source ≡ g.S.Source.failed l.fn.source;
  writer : g.K.Sink.failed l.out ≡ g.K.Sink.failed l.fn.out;
}
