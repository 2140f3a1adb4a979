-- Which numbers and lengths a part of a kind may have.
use Rattle.std.specs.Prelude.{ℕ, ◌+◌, ◌-◌, ◌*◌, ◌≤◌}
use Rattle.lpt_packet.specs.Sizes.{longest_packet}
use Rattle.lpt_part.specs.declared.kind.Kind.{Kind}
use Rattle.lpt_part.specs.declared.kind.Kind.TheVariants.{First, Middle, Last}

-- a first part is number 1, and no other part is
abbrev pub least_number : Kind → ℕ
least_number First = 1
least_number Middle = 2
least_number Last = 2

-- a part sequence number has 16 bits
abbrev pub greatest_number : Kind → ℕ
greatest_number First = 1
greatest_number Middle = 65535
greatest_number Last = 65535

-- each part but the last has p octets, and the last has at least one
abbrev pub least_length : Kind → ℕ → ℕ
least_length First p = p
least_length Middle p = p
least_length Last p = 1

-- a part of this kind may have this number
pub record NumberFits (kind : Kind) (number : ℕ) : Type 0 where
  pub least : least_number kind ≤ number
  pub greatest : number ≤ greatest_number kind

-- a part of this kind and number may have so many octets; it ends within the longest message
pub record LengthFits (kind : Kind) (number len p : ℕ) : Type 0 where
  pub least : least_length kind p ≤ len
  pub greatest : len ≤ p
  pub end : (number - 1) * p + len ≤ longest_packet

-- for parts of p octets there is a part of this kind, number and length
pub record PartFits (kind : Kind) (number len p : ℕ) : Type 0 where
  pub number_fits : NumberFits kind number
  pub length_fits : LengthFits kind number len p
