-- The first fault stays.
use Rattle.std.proofs.Common.{◌≡◌, Some, IfSome}
use Rattle.lpt_share.proofs.run.threads_joined.Given as goal

abbrev pub invariant-loop-handle : goal.invariant-loop-handle
invariant-loop-handle g l = IfSome l.fn.fault (λ f. l.fault ≡ Some f)
