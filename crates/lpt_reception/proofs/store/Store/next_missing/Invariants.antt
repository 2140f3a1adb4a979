-- The parts of the numbers that were passed over were kept.
use Rattle.std.proofs.Common.{◌≡◌, ℕ, true, ◌<◌, ◌≤◌}
use Rattle.lpt_reception.specs.Marks.{is_marked}
use Rattle.lpt_reception.proofs.store.Store.next_missing.Given as goal

abbrev pub invariant-loop-number : goal.invariant-loop-number
invariant-loop-number l =
    (k : ℕ) → l.from ≤ k → 1 ≤ k → k < l.number → is_marked l.self.marks.words.items k ≡ true
