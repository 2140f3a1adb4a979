-- What is kept in room of the caller's.
use Rattle.std.specs.Prelude.{◌≡◌, ℕ, List, take}
use Rattle.lpt_packet.specs.Checksums.{octets_in}
use Rattle.lpt_stream.specs.declared.marks.Marks.{Marks}
use Rattle.lpt_stream.specs.Registers.{AreMarks}

-- the room's first numbers are registers of these octets, and the one before the place is kept
pub record Marked (at : ℕ) (m : Marks) (room octets : List ℕ) : Type 0 where
  pub are : AreMarks m.marked room octets
  pub before : m.before ≡ octets_in 0 (take at octets)
