-- Where the octets of each place stand.
use Rattle.std.specs.Prelude.{◌≡◌, ℕ, ◌+◌, ◌<◌, ◌≤◌, ◌==◌, ◌&&◌, max, nat_le, Bool, if◌then◌else◌, List, [], ◌∷◌, length, slice_index_or, slice_range, Option, Some, None}
use Rattle.std.specs.List.Sorted.{IsNonDecreasingBy}
use Rattle.lpt_layout_join.specs.declared.spans.Span.{Span}

-- whether so many octets reach as far
abbrev pub is_within : (len : ℕ) → Span → Bool
is_within len s = nat_le s.start s.end && nat_le s.end len

-- those that stand there, if they do
abbrev pub octets_at : List ℕ → Option Span → Option (List ℕ)
octets_at xs None = None
octets_at xs (Some s) =
    if is_within (length xs) s then Some (slice_range xs s.start s.end) else None

-- where those of a place stand
abbrev pub span_in : List Span → ℕ → Option Span
span_in [] i = None
span_in (s ∷ ss) i = if s.place == i then Some s else span_in ss i

-- the first place behind all of them
abbrev pub end_of : List Span → ℕ
end_of [] = 0
end_of (s ∷ ss) = max (s.place + 1) (end_of ss)

-- they stand by their places
abbrev pub Rise : List Span → Type 0
Rise ss = IsNonDecreasingBy (λ (s : Span). s.place) ss

-- none is of this place, and one that is stands in order behind so many
pub record IsPlaceOf (place : ℕ) (ss : List Span) (k : ℕ) : Type 0 where
  pub none : span_in ss place ≡ None
  pub within : k ≤ length ss
  pub before : (i : ℕ) (d : Span) → i < k → (slice_index_or ss i d).place ≤ place
  pub behind : (i : ℕ) (d : Span) → k ≤ i → i < length ss → place ≤ (slice_index_or ss i d).place
