use Rattle.std.proofs.Common.{◌≡◌, ◌≤◌, ◌-◌, length, take}
use Rattle.std.specs.Io.KnownBytes.{Appends}
use Rattle.hex.specs.Hex.{encode_lower}
use Rattle.lpt_script.proofs.showing.put_digits.Given as goal

abbrev pub invariant-pieces : goal.invariant-pieces
invariant-pieces g l =
    (l.at ≤ length l.fn.octets)
    × Appends (g.K.Sink.contents l.fn.out) (g.K.Sink.contents l.out) (encode_lower (take l.at l.fn.octets))
    × (g.K.Sink.failed l.out ≡ g.K.Sink.failed l.fn.out)

abbrev pub decreases-pieces : goal.decreases-pieces
decreases-pieces g l = length l.fn.octets - l.at
