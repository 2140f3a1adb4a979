-- What is told of a stream.
use Rattle.std.specs.Prelude.{◌≡◌, ◌+◌, ◌==◌, ◌&&◌, nat_le, Bool, if◌then◌else◌, ℕ, List, ◌++◌, length, Option, Some, None, ⊤}
use Rattle.lpt_packet.specs.Checksums.{checksum}
use Rattle.lpt_memory.specs.Requests.{LoadArea}
use Rattle.lpt_extract.specs.declared.notice.Notice.{Notice}
use Rattle.lpt_extract.specs.declared.notice.Notice.TheVariants.{Taken, PastEnd, WrongChecksum}
use Rattle.lpt_extract.specs.declared.notice.Span.{Span}

-- what is known to have been told grows by these
abbrev pub Hears : (old new : Option (List Notice)) → List Notice → Type 0
Hears None new ns = ⊤
Hears (Some xs) None ns = ⊥
Hears (Some xs) (Some ys) ns = ys ≡ xs ++ ns

-- where the octets of an area stand
abbrev pub span : ℕ → LoadArea → Span
span m a = record { memory = m; address = a.address; len = length a.octets }

-- whether an area ends with the last address, 4294967295, or before it
abbrev pub is_in_reach : LoadArea → Bool
is_in_reach a = nat_le (a.address + length a.octets) 4294967296

-- and its checksum is right, so that it is taken
abbrev pub is_taken : LoadArea → Bool
is_taken a = is_in_reach a && (checksum a.octets == a.checksum)

-- what is told of an area of a report at a place that isn't
abbrev pub untaken : (memory place : ℕ) → LoadArea → Notice
untaken m n a = if is_in_reach a then WrongChecksum (span m a) n else PastEnd (span m a) n

-- what is told of an area of a report at a place
abbrev pub notice : (memory place : ℕ) → LoadArea → Notice
notice m n a = if is_taken a then Taken (span m a) else untaken m n a
