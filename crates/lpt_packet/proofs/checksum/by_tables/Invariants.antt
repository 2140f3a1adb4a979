use Rattle.std.proofs.Common.{◌≡◌, length, drop}
use Rattle.lpt_packet.specs.Checksums.{octets_in}
use Rattle.lpt_packet.proofs.checksum.by_tables.Given as goal

-- what is left to shift in gives the register after all
abbrev pub invariant-loop-eight : goal.invariant-loop-eight
invariant-loop-eight l = octets_in l.register l.left ≡ octets_in l.fn.first l.fn.octets

abbrev pub decreases-loop-eight : goal.decreases-loop-eight
decreases-loop-eight l = length l.left

abbrev pub invariant-loop-octet : goal.invariant-loop-octet
invariant-loop-octet l =
    octets_in l.register (drop l.octet-index l.octet-items) ≡ octets_in l.fn.first l.fn.octets
