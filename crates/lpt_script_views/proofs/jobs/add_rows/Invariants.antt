-- The jobs so far are told.
use Rattle.std.proofs.Common.{◌≡◌, ◌++◌, string_bytes}
use Rattle.lpt_script_views.specs.Jobs.{job_row}
use Rattle.lpt_script_views.specs.Rows.{rows_text}
use Rattle.lpt_world.specs.Worlds.{history}
use Rattle.lpt_script_views.proofs.jobs.add_rows.Given as goal

abbrev pub invariant-loop-place : goal.invariant-loop-place
invariant-loop-place l =
    string_bytes l.text
    ≡ string_bytes l.fn.text ++ rows_text (job_row l.counts (history l.world)) l.counts.applied l.place
