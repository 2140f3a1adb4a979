-- A part of the number came.
use Rattle.std.proofs.Common.{◌∙◌, ◌-◌, ap, sym, List}
use Rattle.lpt_layout_join.specs.declared.spans.Span.{Span}
use Rattle.lpt_layout_join.specs.Spans.{span_in}
use Rattle.lpt_layout_join.proofs.PutLemmas.{end-kept, kept-here}
use Rattle.lpt_layout_join.proofs.slots.Slots.put.Goals as goal

pub returns-in-Ok-clause-here : goal.returns-in-Ok-clause-here
returns-in-Ok-clause-here c = λ sound.
    let n = c.args.part.now.number in
    let d : Span = record { place = 0; start = 0; end = 0 } in
    kept-here c.args.self.now n c.args.part.now.octets.now _ sound
    (ap (λ (ss : List Span). span_in ss (n - 1)) (sym c.as_slice.ensures.value)
    ∙ c.in-Ok.ensures.found.1 d)

pub returns-in-Ok-clause-end : goal.returns-in-Ok-clause-end
returns-in-Ok-clause-end c =
    let n = c.args.part.now.number in
    let d : Span = record { place = 0; start = 0; end = 0 } in
    end-kept c.args.self.now.spans.items n _ c.requires
    (ap (λ (ss : List Span). span_in ss (n - 1)) (sym c.as_slice.ensures.value)
    ∙ c.in-Ok.ensures.found.1 d)
