use Rattle.std.proofs.Common.{◌≡◌, ◌⊎◌, ◌≤◌, ◌-◌}
use Rattle.lpt_split.specs.Streams.{identifiers}
use Rattle.lpt_split.proofs.StreamLemmas.{IsHere}
use Rattle.lpt_split.proofs.splitting.make_packets.Given as goal

-- what is wanted of the messages that came was written
abbrev pub invariant-loop-buffer : goal.invariant-loop-buffer
invariant-loop-buffer g l = record {
  here : IsHere l.wanted l.buffer (g.S.Source.remaining l.fn.source)
      (g.S.Source.remaining l.source)
      (g.K.Sink.contents l.fn.out) (g.K.Sink.contents l.out) l.next l.count l.place;
  most : (l.next ≤ identifiers l.wanted) ⊎ (l.next ≡ l.wanted.id);
  count : l.count ≤ 16383;
  reader : g.S.Source.failed l.source ≡ g.S.Source.failed l.fn.source;
}

abbrev pub decreases-loop-buffer : goal.decreases-loop-buffer
decreases-loop-buffer g l = identifiers l.wanted - l.next
