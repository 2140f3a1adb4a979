-- It is among them where it was put.
use Rattle.std.proofs.Common.{◌∙◌, ap, List}
use Rattle.std.specs.List.{insert}
use Rattle.lpt_layout_join.specs.declared.spans.Span.{Span}
use Rattle.lpt_layout_join.specs.Spans.{end_of, span_in}
use Rattle.lpt_layout_join.proofs.SpanLemmas.{end-put, span-put}
use Rattle.lpt_layout_join.proofs.spans.put_span.Goals as goal

pub returns-clause-is : goal.returns-clause-is
returns-clause-is c = λ i.
    ap (λ (ss : List Span). span_in ss i) (c.in_ok-insert.ensures.items
    ∙ ap (λ (ss : List Span). insert ss c.args.index c.args.span) c.reserve_first.ensures)
    ∙ span-put c.args.spans.now.items c.args.index c.args.span i c.requires.new.none
    c.requires.new.within

pub returns-clause-end : goal.returns-clause-end
returns-clause-end c =
    ap end_of (c.in_ok-insert.ensures.items
    ∙ ap (λ (ss : List Span). insert ss c.args.index c.args.span) c.reserve_first.ensures)
    ∙ end-put c.args.spans.now.items c.args.index c.args.span c.requires.new.within
