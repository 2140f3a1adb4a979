use Rattle.std.proofs.Common.{◌≡◌, drop}
use Rattle.lpt_packet.specs.Checksums.{octets_in}
use Rattle.lpt_stream.proofs.register.octets_in.Given as goal

-- what is left to shift in makes the same of the register
abbrev pub invariant-loop-octet : goal.invariant-loop-octet
invariant-loop-octet l =
    octets_in l.register (drop l.octet-index l.octets) ≡ octets_in l.first l.octets
