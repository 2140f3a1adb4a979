-- The items so far, and those of the gaps that are left behind them, are all.
use Rattle.std.proofs.Common.{◌≡◌, [], drop}
use Rattle.std.specs.String.{string_bytes}
use Rattle.lpt_layout_join.specs.MissingLists.{items_text}
use Rattle.lpt_layout_join.proofs.telling.gaps_text.Given as goal

abbrev pub invariant-loop-gap : goal.invariant-loop-gap
invariant-loop-gap l =
    items_text (string_bytes l.text) (drop l.gap-index l.gaps) ≡ items_text [] l.gaps
