-- The numbers so far are told.
use Rattle.std.proofs.Common.{◌≡◌, ◌++◌, ◌≤◌, flat_map, string_bytes}
use Rattle.std.specs.List.{range_with_len}
use Rattle.lpt_script_views.specs.Gaps.{is_unmarked, part_gap}
use Rattle.lpt_script_views.proofs.gaps.add_unmarked.Given as goal

abbrev pub invariant-loop-number : goal.invariant-loop-number
invariant-loop-number l = record {
  so_far : string_bytes l.text ≡ string_bytes l.fn.text
      ++ flat_map (part_gap (is_unmarked l.marks l.parts)) (range_with_len 1 l.number);
  within : l.number ≤ l.parts;
}
