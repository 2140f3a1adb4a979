-- The octets of parts, by their places.
use Rattle.std.specs.Prelude.{◌≡◌, ℕ, ◌-◌, true, List, length, Option, Some}
use Rattle.lpt_layout_join.specs.declared.slots.Slots.{Slots}
use Rattle.lpt_layout_join.specs.declared.spans.Span.{Span}
use Rattle.lpt_layout_join.specs.Came.{count_to}
use Rattle.lpt_layout_join.specs.Spans.{end_of, is_within, octets_at, span_in}

-- the octets at a place; none if the part hasn't come
abbrev pub at : Slots → ℕ → Option (List ℕ)
at s i = octets_at s.octets.items (span_in s.spans.items i)

-- the first place behind all of them
abbrev pub end_in : Slots → ℕ
end_in s = end_of s.spans.items

-- the octets reach as far as each part, and so many parts are there
pub record IsSound (s : Slots) : Type 0 where
  pub within : (i : ℕ) (x : Span) → span_in s.spans.items i ≡ Some x
      → is_within (length s.octets.items) x ≡ true
  pub count_is : length s.spans.items ≡ count_to (λ n. at s (n - 1)) (end_in s)
