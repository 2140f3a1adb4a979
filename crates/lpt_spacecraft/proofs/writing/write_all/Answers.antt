-- Packet after packet.
use Rattle.std.proofs.Common.{◌∙◌, ◌+◌, drop}
use Rattle.lpt_stream.specs.Streams.{all_octets}
use Rattle.lpt_spacecraft.proofs.WritingLemmas.{octets-at, wrote-more, wrote-part-more}
use Rattle.lpt_spacecraft.proofs.writing.write_all.Goals as goal

-- a packet wasn't written whole
pub returns-in-Err-clause-part : goal.returns-in-Err-clause-part
returns-in-Err-clause-part g c =
    wrote-part-more _ _ _ c.as_slice.result.now _ (all_octets
    (drop (c.loop-packet.packet-index + 1) c.args.packets.now)) _
    c.loop-packet.invariant.written
    (octets-at c.args.packets.now c.loop-packet.packet-index c.packet-item.result
    c.as_slice.result.now
    c.loop-packet-test.true c.packet-item.is c.as_slice.ensures.same)
    c.in-Err.ensures.part

-- a packet was written
pub loop-packet-preserved : goal.loop-packet-preserved
loop-packet-preserved g c = record {
  written = wrote-more _ _ _ c.as_slice.result.now _
      (all_octets (drop (c.loop-packet.packet-index + 1) c.args.packets.now)) _
      c.loop-packet.invariant.written
      (octets-at c.args.packets.now c.loop-packet.packet-index c.packet-item.result
      c.as_slice.result.now
      c.loop-packet-test.true c.packet-item.is c.as_slice.ensures.same)
      c.in-Ok.ensures.ok;
  told = c.in-Ok.ensures.writer ∙ c.loop-packet.invariant.told;
}
