use Rattle.std.proofs.Common.{◌-◌, length}
use Rattle.std.specs.Io.KnownBytes.{Keeps}
use Rattle.lpt_capture.specs.States.{octets_held, octets_known}
use Rattle.lpt_capture.proofs.ahead.Ahead.hold.Given as goal

-- what is to be given stays the same
abbrev pub invariant-loop-self : goal.invariant-loop-self
invariant-loop-self g l = record {
  same : Keeps (octets_known g.S.Source.remaining l.fn.self)
      (octets_known g.S.Source.remaining l.self);
}

abbrev pub decreases-loop-self : goal.decreases-loop-self
decreases-loop-self g l = l.count - length (octets_held l.self)
