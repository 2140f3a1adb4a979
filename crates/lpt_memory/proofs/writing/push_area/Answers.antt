-- The checksum is that of the area's octets.
use Rattle.std.proofs.Common.{◌≡◌, ◌∙◌, ap, arith}
use Rattle.std.proofs.lemmas.Grind.{common_steps}
use Rattle.lpt_packet.specs.Checksums.{checksum}
use Rattle.lpt_memory.proofs.writing.push_area.Goals as goal

pub returns-clause-pushed : goal.returns-clause-pushed
returns-clause-pushed c =
    let own : c.crc16-checksum.result ≡ checksum c.args.area.now.octets =
    c.crc16-checksum.ensures ∙ ap checksum c.as_slice-octets.ensures.same in
    grind (arith, common_steps)
