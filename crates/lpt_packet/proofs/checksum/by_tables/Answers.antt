-- What the octets shift in is the register after all.
use Rattle.std.proofs.Common.{◌∙◌, ap, sym, refl, take, drop, take-append-drop}
use Rattle.lpt_packet.specs.Checksums.{octets_in}
use Rattle.lpt_packet.proofs.Registers.{octets_in-append, octets_in-next, octets_in-end}
use Rattle.lpt_packet.proofs.checksum.by_tables.Goals as goal

pub loop-eight-init : goal.loop-eight-init
loop-eight-init c = refl

pub loop-eight-preserved : goal.loop-eight-preserved
loop-eight-preserved c =
    let r = c.loop-eight.register in
    let left = c.loop-eight.left.now in
    rw (c.eight_in-register.ensures, c.in-Some.ensures.cases.0, c.in-Some.ensures.cases.1)
    (sym (octets_in-append r (take 8 left) (drop 8 left))
    ∙ ap (octets_in r) (take-append-drop 8 left)
    ∙ c.loop-eight.invariant)

pub loop-octet-init : goal.loop-octet-init
loop-octet-init c = c.loop-eight.invariant

pub loop-octet-preserved : goal.loop-octet-preserved
loop-octet-preserved c =
    rw c.octet_in-register.ensures
    (octets_in-next c.loop-octet.register c.loop-eight.left.now c.loop-octet.octet-index
    c.loop-octet-test.true
    ∙ c.loop-octet.invariant)

pub returns : goal.returns
returns c =
    sym (octets_in-end c.loop-octet.register c.loop-eight.left.now c.loop-octet.octet-index
    c.loop-octet-test.false)
    ∙ c.loop-octet.invariant
