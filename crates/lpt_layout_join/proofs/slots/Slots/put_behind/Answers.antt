-- A part more is kept.
use Rattle.std.proofs.Common.{rules, ◌≡◌, ◌∙◌, ◌-◌, ◌+◌, ap, ℕ, arith, length, max}
use Rattle.lpt_layout_join.specs.declared.slots.Slots.{Slots}
use Rattle.lpt_layout_join.specs.declared.spans.Span.{Span}
use Rattle.lpt_layout_join.specs.Slots.{end_in}
use Rattle.lpt_layout_join.proofs.PutLemmas.{new-other, new-some, new-sound}
use Rattle.lpt_layout_join.proofs.slots.Slots.put_behind.Goals as goal

pub returns-clause-sound : goal.returns-clause-sound
returns-clause-sound c = λ sound.
    let n = c.args.part.now.number in
    let x = c.in_ok-span.ensures in
    let len : c.len.result ≡ length c.args.self.now.octets.items = search rules in
    let back : n - 1 + 1 ≡ n = omega (arith, c.requires.number) in
    new-sound c.args.self.now _ n c.args.part.now.octets.now c.in_ok-span.span
    c.requires.number sound
    (ap (λ (s : Span). s.place) x) (ap (λ (s : Span). s.start) x ∙ len)
    (ap (λ (s : Span). s.end) x
    ∙ ap (λ (k : ℕ). k + length c.args.part.now.octets.now) len)
    c.requires.new.none c.in_ok-extend_from_slice.ensures.items c.in_ok-put_span.ensures.is
    (c.in_ok-put_span.ensures.end
    ∙ ap (λ (s : Span). max (s.place + 1) (end_in c.args.self.now)) x
    ∙ ap (λ (k : ℕ). max k (end_in c.args.self.now)) back)
    c.in_ok-put_span.ensures.len

pub returns-clause-others : goal.returns-clause-others
returns-clause-others c = λ sound.
    let x = c.in_ok-span.ensures in
    let len : c.len.result ≡ length c.args.self.now.octets.items = search rules in
    let new : Slots = record {
      octets = c.extend_from_slice.new.self;
      spans = c.put_span.new.spans;
      rises = c.put_span.ensures.rise;
    } in
    new-other c.args.self.now new c.args.part.now.number c.args.part.now.octets.now
    c.in_ok-span.span c.requires.number sound
    (ap (λ (s : Span). s.place) x) (ap (λ (s : Span). s.start) x ∙ len)
    (ap (λ (s : Span). s.end) x
    ∙ ap (λ (k : ℕ). k + length c.args.part.now.octets.now) len)
    c.requires.new.none c.in_ok-extend_from_slice.ensures.items c.in_ok-put_span.ensures.is

pub returns-clause-end : goal.returns-clause-end
returns-clause-end c =
    let n = c.args.part.now.number in
    let x = c.in_ok-span.ensures in
    let back : n - 1 + 1 ≡ n = omega (arith, c.requires.number) in
    c.in_ok-put_span.ensures.end
    ∙ ap (λ (s : Span). max (s.place + 1) (end_in c.args.self.now)) x
    ∙ ap (λ (k : ℕ). max k (end_in c.args.self.now)) back

pub returns-clause-here : goal.returns-clause-here
returns-clause-here c = λ sound.
    let x = c.in_ok-span.ensures in
    let len : c.len.result ≡ length c.args.self.now.octets.items = search rules in
    let new : Slots = record {
      octets = c.extend_from_slice.new.self;
      spans = c.put_span.new.spans;
      rises = c.put_span.ensures.rise;
    } in
    new-some c.args.self.now new c.args.part.now.number c.args.part.now.octets.now c.in_ok-span.span
    c.requires.number sound
    (ap (λ (s : Span). s.place) x) (ap (λ (s : Span). s.start) x ∙ len)
    (ap (λ (s : Span). s.end) x
    ∙ ap (λ (k : ℕ). k + length c.args.part.now.octets.now) len)
    c.requires.new.none c.in_ok-extend_from_slice.ensures.items c.in_ok-put_span.ensures.is
