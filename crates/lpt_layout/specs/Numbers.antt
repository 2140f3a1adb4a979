-- Numbers that are as wide as a layout has them.
use Rattle.std.specs.Prelude.{ℕ, List, slice_index}
use Rattle.lpt_packet.specs.Numbers.{word_at}
use Rattle.lpt_pus.specs.Numbers.{long_at}
use Rattle.lpt_layout.specs.declared.width.Width.{Width}
use Rattle.lpt_layout.specs.declared.width.Width.TheVariants.{Absent, Octet, Word, Long}

-- the octets of a number of this width
abbrev pub octets_of : Width → ℕ
octets_of Absent = 0
octets_of Octet = 1
octets_of Word = 2
octets_of Long = 4

-- the number of this width at a place; one that is absent is 0
abbrev pub number_at : Width → List ℕ → ℕ → ℕ
number_at Absent b i = 0
number_at Octet b i = slice_index b i
number_at Word b i = word_at b i
number_at Long b i = long_at b i
