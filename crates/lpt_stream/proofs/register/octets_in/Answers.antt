-- Octet after octet.
use Rattle.std.proofs.Common.{◌∙◌, sym, refl}
use Rattle.lpt_packet.proofs.Registers.{octets_in-next, octets_in-end}
use Rattle.lpt_stream.proofs.register.octets_in.Goals as goal

pub loop-octet-init : goal.loop-octet-init
loop-octet-init c = refl

pub loop-octet-preserved : goal.loop-octet-preserved
loop-octet-preserved c =
    rw c.octet_in-register.ensures
    (octets_in-next c.loop-octet.register c.args.octets.now c.loop-octet.octet-index
    c.loop-octet-test.true
    ∙ c.loop-octet.invariant)

pub returns : goal.returns
returns c =
    sym (octets_in-end c.loop-octet.register c.args.octets.now c.loop-octet.octet-index
    c.loop-octet-test.false)
    ∙ c.loop-octet.invariant
