use Rattle.std.proofs.Common.{◌+◌, arith, string_bytes}
use Rattle.lpt_script_views.specs.Gaps.{is_unmarked, part_gap}
use Rattle.lpt_script_views.proofs.RowLemmas.{rows_next}
use Rattle.lpt_script_views.proofs.gaps.add_unmarked.Goals as goal

-- the next number is told
pub loop-number-preserved : goal.loop-number-preserved
loop-number-preserved c =
    let n = c.loop-number.number in
    record {
      so_far = rows_next (part_gap (is_unmarked c.args.marks.now c.args.parts)) 1 n (n + 1) (n + 1)
          (string_bytes c.args.text.now) (string_bytes c.loop-number.text) (string_bytes c.add_gap.new.text)
          (omega arith) (omega arith) c.loop-number.invariant.so_far c.in_ok-add_gap.ensures;
      within = omega arith;
    }
