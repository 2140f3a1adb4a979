-- The last stretch may still grow. Whatever it becomes,
-- with more stretches behind it, all are told.
use Rattle.std.proofs.Common.{◌≡◌, ◌+◌, ◌-◌, ◌++◌, ◌∷◌, List, length}
use Rattle.lpt_compare.specs.declared.differing.Stretch.{Stretch}
use Rattle.lpt_compare.specs.Differences.{AreStretches, IsStretch}
use Rattle.lpt_compare.proofs.differing.differing_stretches.Given as goal

abbrev pub invariant-loop-place : goal.invariant-loop-place
invariant-loop-place l = record {
  last : IsStretch l.old l.new l.gap l.align l.last;
  told : (more : List Stretch) (s : Stretch) → s.from ≡ l.last.from
      → IsStretch l.old l.new l.gap l.align s
      → AreStretches l.old l.new l.gap l.align s.end (s.end + l.gap + 1) more
      → AreStretches l.old l.new l.gap l.align 0 0 (l.stretches.items ++ s ∷ more);
}

abbrev pub decreases-loop-place : goal.decreases-loop-place
decreases-loop-place l = length l.old - l.last.end
