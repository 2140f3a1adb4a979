use Rattle.std.proofs.Common.{◌≡◌, length}
use Rattle.lpt_split.specs.Splits.{AreNumbers}
use Rattle.lpt_split.specs.Lists.{numbers_of, numbers_of_items}
use Rattle.lpt_text.specs.Items.{items_of}
use Rattle.lpt_split.proofs.ListLemmas.{behind}
use Rattle.lpt_split.proofs.lists.read_parts.Given as goal

-- the parts so far, and those of the items that are left, are all
abbrev pub invariant-loop-item : goal.invariant-loop-item
invariant-loop-item l = record {
  read : behind l.parts.items (numbers_of_items l.last (items_of l.left)) ≡ numbers_of l.last l.list;
  numbers : AreNumbers l.last l.parts.items;
}

abbrev pub decreases-loop-item : goal.decreases-loop-item
decreases-loop-item l = length l.left
