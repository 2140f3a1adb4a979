use Rattle.std.proofs.Common.{◌≡◌}
use Rattle.std.specs.Io.KnownBytes.{Keeps}
use Rattle.lpt_io.specs.Spans.{has_failed, span_left}
use Rattle.lpt_io.proofs.span.SourceSpan.pass_over.Given as goal

-- what is to be given stays the same
abbrev pub invariant-loop-self : goal.invariant-loop-self
invariant-loop-self g l =
    Keeps (span_left g.S.Source.remaining l.fn.self) (span_left g.S.Source.remaining l.self)
    × (has_failed l.self ≡ has_failed l.fn.self)

abbrev pub decreases-loop-self : goal.decreases-loop-self
decreases-loop-self g l = l.self.before
