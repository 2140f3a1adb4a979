-- Item after item.
use Rattle.std.proofs.Common.{◌∙◌, ap, sym, subst, ℕ, List}
use Rattle.lpt_split.specs.Splits.{AreNumbers}
use Rattle.lpt_split.specs.Lists.{numbers_in, numbers_of, numbers_of_items}
use Rattle.lpt_text.specs.Items.{items_of}
use Rattle.lpt_split.proofs.ListLemmas.{behind, numbers-append, range-numbers, read-first, read-next}
use Rattle.lpt_split.proofs.lists.read_parts.Goals as goal

pub loop-item-init : goal.loop-item-init
loop-item-init c =
    let none = c.new-parts.ensures.items in
    record {
      read = ap (λ (xs : List ℕ). behind xs (numbers_of_items c.args.last (items_of c.args.list.now))) none
          ∙ read-first c.args.last c.args.list.now;
      numbers = subst (AreNumbers c.args.last) (sym none) tt;
    }

-- an item was read
pub loop-item-preserved : goal.loop-item-preserved
loop-item-preserved c =
    let r = c.in-Some-read_range in
    let more = c.in-Some.behind.now in
    let pushed = c.in_ok-push_run.ensures in
    record {
      read = ap (λ (xs : List ℕ). behind xs (numbers_of_items c.args.last (items_of more))) pushed
          ∙ read-next c.args.last c.loop-item.left.now c.in-Some.item.now more
          c.loop-item.parts.items (r.from, r.to) (numbers_of c.args.last c.args.list.now)
          c.loop-item.invariant.read c.in-Some.ensures.items r.ensures.range;
      numbers = subst (AreNumbers c.args.last) (sym pushed)
          (numbers-append c.args.last c.loop-item.parts.items (numbers_in (r.from, r.to))
          c.loop-item.invariant.numbers
          (range-numbers c.args.last (r.from, r.to) r.ensures.within));
    }

-- the last one was
pub returns-clause-numbers : goal.returns-clause-numbers
returns-clause-numbers c =
    let r = c.in-Some-read_range-2 in
    subst (AreNumbers c.args.last) (sym c.in_ok-push_run-2.ensures)
    (numbers-append c.args.last c.loop-item.parts.items (numbers_in (r.from, r.to))
    c.loop-item.invariant.numbers
    (range-numbers c.args.last (r.from, r.to) r.ensures.within))
