-- The entries that are left say behind what is known so far what all say.
use Rattle.std.proofs.Common.{◌≡◌, false, drop}
use Rattle.lpt_script_views.specs.Jobs.{committed_after}
use Rattle.lpt_script_views.specs.Told.{told_by}
use Rattle.lpt_script_views.proofs.jobs.committed_by.Given as goal

abbrev pub invariant-loop-entry : goal.invariant-loop-entry
invariant-loop-entry l =
    told_by (committed_after l.number) (drop l.entry-index l.journal) l.is_committed
    ≡ told_by (committed_after l.number) l.journal false
