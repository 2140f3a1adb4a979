-- The entries that are left count behind the counts so far what all count.
use Rattle.std.proofs.Common.{◌≡◌, ◌≤◌, drop}
use Rattle.lpt_script_views.specs.Jobs.{counts_after, none_counted}
use Rattle.lpt_script_views.specs.Told.{told_by}
use Rattle.lpt_script_views.proofs.jobs.counted.Given as goal

abbrev pub invariant-loop-entry : goal.invariant-loop-entry
invariant-loop-entry l = record {
  same : told_by counts_after (drop l.entry-index l.journal) l.counts
      ≡ told_by counts_after l.journal none_counted;
  boot : l.counts.boot ≤ l.entry-index;
  claimed : l.counts.claimed ≤ l.entry-index;
  applied : l.counts.applied ≤ l.entry-index;
}
