use Rattle.std.proofs.Common.{◌≡◌, drop}
use Rattle.lpt_stream.specs.Streams.{all_octets}
use Rattle.lpt_spacecraft.proofs.WritingLemmas.{Wrote}
use Rattle.lpt_spacecraft.proofs.writing.write_all.Given as goal

-- what was written, and the packets that are left, are all
abbrev pub invariant-loop-packet : goal.invariant-loop-packet
invariant-loop-packet g l = record {
  written : Wrote (g.K.Sink.contents l.fn.out) (g.K.Sink.contents l.out)
      (all_octets (drop l.packet-index l.packets)) (all_octets l.packets);
  told : g.K.Sink.failed l.out ≡ g.K.Sink.failed l.fn.out;
}
