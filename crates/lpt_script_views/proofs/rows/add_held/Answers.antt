use Rattle.std.proofs.Common.{◌+◌, arith, string_bytes}
use Rattle.lpt_script_views.specs.Rows.{held_row}
use Rattle.lpt_script_views.proofs.RowLemmas.{rows_next}
use Rattle.lpt_script_views.proofs.rows.add_held.Goals as goal

-- the next packet is told
pub loop-number-preserved : goal.loop-number-preserved
loop-number-preserved c =
    let n = c.loop-number.number in
    rows_next (held_row c.args.world.now) 0 n n (n + 1)
    (string_bytes c.args.text.now) (string_bytes c.loop-number.text) (string_bytes c.add_held_row.new.text)
    (omega arith) (omega arith) c.loop-number.invariant c.in_ok-add_held_row.ensures
