-- The entries that are left say behind the numbers so far what all say.
use Rattle.std.proofs.Common.{◌≡◌, [], drop}
use Rattle.lpt_script_views.specs.Kept.{kept_after}
use Rattle.lpt_script_views.specs.Told.{told_by}
use Rattle.lpt_script_views.proofs.kept.kept_by.Given as goal

abbrev pub invariant-loop-entry : goal.invariant-loop-entry
invariant-loop-entry l =
    told_by (kept_after l.direction l.name) (drop l.entry-index l.journal) l.kept.items
    ≡ told_by (kept_after l.direction l.name) l.journal []
