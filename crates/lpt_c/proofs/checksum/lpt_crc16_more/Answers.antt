-- What was shifted in before and these octets together are shifted into ones.
use Rattle.std.proofs.Common.{◌∙◌, ap, sym, ℕ}
use Rattle.lpt_packet.specs.Checksums.{octets_in, checksum}
use Rattle.lpt_packet.proofs.Registers.{octets_in-append}
use Rattle.lpt_c.proofs.checksum.lpt_crc16_more.Goals as goal

pub returns-clause-more : goal.returns-clause-more
unfolding checksum
returns-clause-more c front given =
    c.crc16_more.ensures
    ∙ ap (λ (r : ℕ). octets_in r c.args.octets.now) given
    ∙ sym (octets_in-append 0xffff front c.args.octets.now)
