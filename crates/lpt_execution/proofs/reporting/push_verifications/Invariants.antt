-- The reports so far, with those that are left.
use Rattle.std.proofs.Common.{◌≡◌, ◌++◌, map}
use Rattle.lpt_execution.specs.Reporting.{verification}
use Rattle.lpt_execution.proofs.reporting.push_verifications.Given as goal

abbrev pub invariant-loop-subtype : goal.invariant-loop-subtype
invariant-loop-subtype l =
    l.reports.items ++ map verification l.subtype-iterator.rest.items
    ≡ l.fn.reports.items ++ map verification l.fn.verifications.items
