-- The same parts, held a second time.
use Rattle.std.proofs.Common.{◌≡◌, ◌∙◌, ap, sym, ℕ, ◌-◌, List, length}
use Rattle.lpt_layout_join.specs.declared.came.CameAs.{CameAs}
use Rattle.lpt_layout_join.specs.declared.slots.Slots.{Slots}
use Rattle.lpt_layout_join.specs.declared.spans.Span.{Span}
use Rattle.lpt_layout_join.specs.Came.{Came, count_to}
use Rattle.lpt_layout_join.specs.CameInside.{Shows, against_in, last_in, size_in}
use Rattle.lpt_layout_join.specs.Slots.{IsSound, at}
use Rattle.lpt_layout_join.specs.Spans.{end_of, is_within, octets_at, span_in}

module _ (s t : Slots) (octets : t.octets.items ≡ s.octets.items)
    (spans : t.spans.items ≡ s.spans.items) where
  same-at : (i : ℕ) → at t i ≡ at s i
  same-at i =
      ap (λ (xs : List ℕ). octets_at xs (span_in t.spans.items i)) octets
      ∙ ap (λ (ys : List Span). octets_at s.octets.items (span_in ys i)) spans

  sound-copy : IsSound s → IsSound t
  sound-copy h = record {
    within = λ i x is.
        ap (λ (xs : List ℕ). is_within (length xs) x) octets
        ∙ h.within i x (ap (λ (ys : List Span). span_in ys i) (sym spans) ∙ is);
    count_is =
        ap length spans ∙ h.count_is
        ∙ λ j. count_to (λ n. sym (same-at (n - 1)) j) (end_of (sym spans j));
  }

pub shows-copy : (c : Came) (s t : CameAs)
    → t.slots.octets.items ≡ s.slots.octets.items
    → t.slots.spans.items ≡ s.slots.spans.items
    → size_in t ≡ size_in s
    → last_in t ≡ last_in s
    → against_in t ≡ against_in s
    → Shows c s
    → Shows c t
shows-copy c s t octets spans size last against h =
    let same = same-at s.slots t.slots octets spans in
    record {
      sound = sound-copy s.slots t.slots octets spans h.sound;
      parts_are = λ n least. same (n - 1) ∙ h.parts_are n least;
      size_is = size ∙ h.size_is;
      last_is = last ∙ h.last_is;
      highest_is = ap end_of spans ∙ h.highest_is;
      against_is = against ∙ h.against_is;
    }
