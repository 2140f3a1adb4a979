use Rattle.std.proofs.Common.{◌+◌, arith, string_bytes, refl}
use Rattle.lpt_script_views.specs.Jobs.{job_row}
use Rattle.lpt_world.specs.Worlds.{history}
use Rattle.lpt_script_views.proofs.RowLemmas.{rows_next}
use Rattle.lpt_script_views.proofs.jobs.add_rows.Goals as goal

-- the next job is told
pub loop-place-preserved : goal.loop-place-preserved
loop-place-preserved c =
    let n = c.loop-place.place in
    let from = c.args.counts.applied in
    rows_next (job_row c.args.counts (history c.args.world.now)) from n
    (c.from.result + c.from-in-loop-place.result) (n + 1)
    (string_bytes c.args.text.now) (string_bytes c.loop-place.text) (string_bytes c.add_job.new.text)
    (grind arith) (omega arith) c.loop-place.invariant c.in_ok-add_job.ensures
