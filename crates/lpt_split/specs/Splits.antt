-- The packets of a message's parts.
use Rattle.std.specs.Prelude.{ℕ, ◌+◌, ◌%◌, ◌≤◌, List, [], ◌∷◌}
use Rattle.std.specs.List.{flat_map}
use Rattle.lpt_capture.specs.Captures.{capture_of}
use Rattle.lpt_split.specs.declared.form.Form.{Form}
use Rattle.lpt_split.specs.declared.form.Form.TheVariants.{Plain, Capture}
use Rattle.lpt_events.specs.Counts.{sequence_counts}

-- the sequence count after this one
abbrev pub next_count : ℕ → ℕ
next_count count = (count + 1) % sequence_counts

-- it is the number of one of so many parts
pub record IsNumber (parts n : ℕ) : Type 0 where
  pub some : 1 ≤ n
  pub within : n ≤ parts

-- each is the number of one of so many parts
abbrev pub AreNumbers : ℕ → List ℕ → Type 0
AreNumbers parts [] = Unit {0}
AreNumbers parts (n ∷ ns) = IsNumber parts n × AreNumbers parts ns

-- the octets of packets, one behind the other
abbrev pub octets_of : List (List ℕ) → List ℕ
octets_of packets = flat_map (λ b. b) packets

-- packets in this form, those of a capture all of this time
abbrev pub written_in : Form → (time : ℕ) → List (List ℕ) → List ℕ
written_in Plain time packets = octets_of packets
written_in Capture time packets = capture_of time packets
