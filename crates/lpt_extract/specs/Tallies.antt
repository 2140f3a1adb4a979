-- How much of a stream wasn't taken, by what is told of it.
use Rattle.std.specs.Prelude.{◌≡◌, ℕ, Bool, true, false, List, [], ◌∷◌, length, count_by, flat_map, Option, Some, None}
use Rattle.lpt_extract.specs.declared.notice.Notice.{Notice}
use Rattle.lpt_extract.specs.declared.notice.Notice.TheVariants.{PastEnd, WrongChecksum, Unread, OtherMemory, OtherApid, OfPart, Damaged, Stray}
use Rattle.lpt_extract.specs.declared.tally.Others.{Others}
use Rattle.lpt_extract.specs.declared.tally.Tally.{Tally}
use Rattle.lpt_stream.specs.Pieces.{up_to_limit}

-- an area or a report that was passed over
abbrev pub is_passed : Notice → Bool
is_passed (PastEnd s n) = true
is_passed (WrongChecksum s n) = true
is_passed (Unread k n) = true
is_passed other = false

-- octets that are no packet, as many as their header says
abbrev pub is_damaged : Notice → Bool
is_damaged Damaged = true
is_damaged other = false

-- an octet that is part of no packet
abbrev pub is_stray : Notice → Bool
is_stray Stray = true
is_stray other = false

-- the other memory of which a report is
abbrev pub memory_of : Notice → List ℕ
memory_of (OtherMemory m) = m ∷ []
memory_of other = []

-- the other application process
abbrev pub apid_of : Notice → List ℕ
apid_of (OtherApid a) = a ∷ []
apid_of other = []

-- the place of a part of a message
abbrev pub part_of : Notice → List ℕ
part_of (OfPart n) = n ∷ []
part_of other = []

-- the first of them
abbrev pub first_of : List ℕ → Option ℕ
first_of [] = None
first_of (x ∷ xs) = Some x

-- so many of these, and the first of them
pub record AreOthers (xs : List ℕ) (o : Others) : Type 0 where
  pub count_is : o.count ≡ up_to_limit (length xs)
  pub first_is : o.first ≡ first_of xs

-- how many of each kind were told
pub record IsTally (ns : List Notice) (t : Tally) : Type 0 where
  pub passed_is : t.passed ≡ up_to_limit (count_by is_passed ns)
  pub memories_are : AreOthers (flat_map memory_of ns) t.memories
  pub apids_are : AreOthers (flat_map apid_of ns) t.apids
  pub parts_are : AreOthers (flat_map part_of ns) t.parts
  pub damaged_is : t.damaged ≡ up_to_limit (count_by is_damaged ns)
  pub stray_is : t.stray ≡ up_to_limit (count_by is_stray ns)
