-- Sequence counts and message type counters.
use Rattle.std.specs.Prelude.{ℕ, ◌+◌, ◌%◌, List, [], ◌∷◌, slice_index, slice_set}
use Rattle.lpt_events.specs.declared.telemetry.TelemetryKind.{TelemetryKind}
use Rattle.lpt_events.specs.TelemetryKinds.{place_of}
use Rattle.lpt_events.specs.Counts.{sequence_counts, type_counters}

-- a packet sequence count has 14 bits, and 0 follows the greatest
abbrev pub next_count : ℕ → ℕ
next_count n = (n + 1) % sequence_counts

-- the message type counter of a kind
abbrev pub counter_of : List ℕ → TelemetryKind → ℕ
counter_of types kind = slice_index types (place_of kind)

-- a message type counter has 16 bits, and 0 follows the greatest
abbrev pub next_types : List ℕ → TelemetryKind → List ℕ
next_types types kind = slice_set types (place_of kind) ((counter_of types kind + 1) % type_counters)

-- all message type counters at 0
abbrev pub no_types : List ℕ
no_types = 0 ∷ 0 ∷ 0 ∷ 0 ∷ 0 ∷ 0 ∷ 0 ∷ 0 ∷ 0 ∷ 0 ∷ 0 ∷ []
