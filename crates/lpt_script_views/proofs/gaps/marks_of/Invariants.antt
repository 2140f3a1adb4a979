-- Of each number it is known whether it was among those that were gone through.
use Rattle.std.proofs.Common.{◌≡◌, ◌<◌, ℕ, false, length, get_or, take}
use Rattle.lpt_script_views.specs.Kept.{has_number}
use Rattle.lpt_script_views.proofs.gaps.marks_of.Given as goal

abbrev pub invariant-loop-number : goal.invariant-loop-number
invariant-loop-number l = record {
  all : length l.marks.items ≡ l.fn.many;
  known : (k : ℕ) → k < l.fn.many
      → get_or l.marks.items k false ≡ has_number (take l.number-index l.fn.kept) k;
}
