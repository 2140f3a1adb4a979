-- The last of them ends last.
use Rattle.std.proofs.Common.{◌≡◌, ◌-◌, suc, sym, length, arith}
use Rattle.lpt_layout_join.specs.declared.spans.Span.{Span}
use Rattle.lpt_layout_join.proofs.SpanLemmas.{end-last}
use Rattle.lpt_layout_join.proofs.spans.end_of.Goals as goal

pub returns : goal.returns
returns c =
    let ss = c.args.spans.now in
    let d : Span = record { place = 0; start = 0; end = 0 } in
    let some : length ss ≡ suc (length ss - 1) = omega (arith, c.if-len-eq0.false) in
    sym (end-last ss d (length ss - 1) c.requires some)
