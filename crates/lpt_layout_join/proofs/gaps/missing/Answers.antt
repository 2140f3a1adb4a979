-- Where no gap comes, the gaps so far are all.
use Rattle.std.proofs.Common.{subst, append-nil, List, [], ℕ}
use Rattle.lpt_layout_join.specs.PartNumbersInside.{has}
use Rattle.lpt_layout_join.specs.Missing.{AreGaps}
use Rattle.lpt_layout_join.proofs.gaps.missing.Goals as goal

pub returns : goal.returns
returns c =
    subst (λ (gaps : List (ℕ × ℕ)). AreGaps (has c.args.came.now) 1 c.args.last gaps)
    (append-nil c.loop-gap.gaps.items)
    (c.loop-gap.invariant.told [] (c.gap_from.ensures.none.0 c.in_default.is))
