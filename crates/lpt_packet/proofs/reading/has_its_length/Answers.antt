-- Whether the data length field says it. It is written out so that a wrong body is refused at once.
use Rattle.std.proofs.Common.{◌∙◌, ap, ℕ, ◌+◌, ◌==◌, length}
use Rattle.lpt_packet.proofs.reading.has_its_length.Goals as goal

pub returns : goal.returns
returns c =
    ap (λ (n : ℕ). length c.args.bytes.now == 7 + n) (c.from.ensures ∙ c.word.ensures)
