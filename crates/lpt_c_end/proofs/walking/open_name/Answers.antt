-- The first name is that of number 0, and the next one behind that of a number that of the next.
use Rattle.std.proofs.Common.{◌∙◌, ◌+◌, sym, arith}
use Rattle.lpt_c_end.proofs.NextLemmas.{first_key, next_key, none_behind}
use Rattle.lpt_c_end.proofs.walking.open_name.Goals as goal

pub loop-at-init : goal.loop-at-init
loop-at-init c =
    sym (first_key c.args.table.now.entries c.open_behind.result c.open_behind.ensures)
    ∙ c.in_ok-name.was

pub loop-at-preserved : goal.loop-at-preserved
loop-at-preserved c =
    sym (next_key c.args.table.now.entries c.loop-at._at c.loop-at.name
    c.open_behind-in-loop-at.result c.loop-at.invariant c.open_behind-in-loop-at.ensures)
    ∙ c.in_ok-name-2.was

pub returns-in_err-name : goal.returns-in_err-name
returns-in_err-name c =
    let first = first_key c.args.table.now.entries c.open_behind.result c.open_behind.ensures in
    c.from_residual.ensures
    ∙ sym (none_behind _ 0 c.args.number (sym first ∙ c.in_err-name.was) (omega arith))

pub returns-in_err-name-2 : goal.returns-in_err-name-2
returns-in_err-name-2 c =
    let next =
    next_key c.args.table.now.entries c.loop-at._at c.loop-at.name
    c.open_behind-in-loop-at.result c.loop-at.invariant c.open_behind-in-loop-at.ensures
    in
    c.from_residual-in_err-name-2.ensures
    ∙ sym (none_behind _ (c.loop-at._at + 1) c.args.number (sym next ∙ c.in_err-name-2.was)
    (omega arith))
