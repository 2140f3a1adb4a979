-- A reader's answer says it of the octets.
use Rattle.std.proofs.Common.{◌∙◌, arith}
use Rattle.lpt_packet.specs.Numbers.{IsOctets}
use Rattle.lpt_lossy.proofs.DamageLemmas.{is_read-shows}
use Rattle.lpt_lossy.proofs.burst.shows_changes.Goals as goal

pub returns : goal.returns
returns c =
    let octets : IsOctets c.args.octets.now = λ i. omega (arith, c.type_inv.octets i) in
    c.is_read.ensures
    ∙ is_read-shows c.args.layouts.now c.args.octets.now c.read_packet.result octets
    c.read_packet.ensures.exact
