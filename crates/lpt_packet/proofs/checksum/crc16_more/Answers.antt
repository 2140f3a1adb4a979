-- The first eight octets go in as a word, and then the others.
use Rattle.std.proofs.Common.{◌∙◌, ap, sym, take, drop, take-append-drop}
use Rattle.lpt_packet.specs.Checksums.{octets_in}
use Rattle.lpt_packet.proofs.Registers.{octets_in-append}
use Rattle.lpt_packet.proofs.checksum.crc16_more.Goals as goal

pub returns-in-Some : goal.returns-in-Some
returns-in-Some c =
    let r = c.args.register in
    let octets = c.args.octets.now in
    rw (
      c.by_words.ensures,
      c.first_word.ensures,
      c.in-Some.ensures.cases.0,
      c.in-Some.ensures.cases.1,
    )
    (sym (octets_in-append r (take 8 octets) (drop 8 octets))
    ∙ ap (octets_in r) (take-append-drop 8 octets))
