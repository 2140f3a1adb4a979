-- Parts of a message that stand in a stream in the order of their numbers, with few sequence counts
-- missing between them.
use Rattle.std.specs.Prelude.{◌≡◌, ◌≢◌, ◌⊎◌, ◌<◌, ◌≤◌, ℕ, zero, suc, ◌+◌, List, [], ◌∷◌, ◌++◌, Some, None}
use Rattle.std.specs.List.{AllByRecursion}
use Rattle.lpt_part.specs.Parts.{Piece}
use Rattle.lpt_layout_join.specs.declared.last_part.LastPart.{LastPart}
use Rattle.lpt_carried.specs.declared.name.Name.{Name}
use Rattle.lpt_carried.specs.declared.reading.Reading.{Reading}
use Rattle.lpt_layout_join.specs.Came.{last_of, message_of, octets_of}
use Rattle.lpt_carried.specs.Carried.{part_carried, part_of}
use Rattle.lpt_layout_join.specs.Counts.{missing_in}

-- a packet carries the part of the name with this number, and its octets are joined
pub record Carries (r : Reading) (n : Name) (parts : List Piece) (k : ℕ)
    (b : List ℕ) : Type 0 where
  pub part : Piece
  pub carries : part_of n (part_carried r b) ≡ Some part
  pub number_is : part.number ≡ k
  pub octets_are : octets_of parts k ≡ Some part.octets

-- a packet carries no part of the name, or one of those up to k again but the first
abbrev pub IsBetween : Reading → Name → (k : ℕ) → List ℕ → Type 0
IsBetween r n k b =
    (part_of n (part_carried r b) ≡ None)
    ⊎ ((q : Piece) × (part_of n (part_carried r b) ≡ Some q) × (q.number ≢ 1) × (q.number ≤ k))

-- a packet carries no part of the name
abbrev pub IsOther : Reading → Name → List ℕ → Type 0
IsOther r n b = part_of n (part_carried r b) ≡ None

-- Parts 1 to k stand in these packets in their order, the last packet carries part k: between each
-- of them and the next stands no part of the name but one of those before again; and up to part
-- i + 1 fewer than i counts more are missing than up to part i, and fewer than 2 if a part of the
-- name stands between them.
abbrev pub Stands : Reading → Name → List Piece → (k : ℕ) → List (List ℕ) → Type 0
Stands r n parts zero bs = Unit {0}
Stands r n parts (suc k) bs =
    (front : List (List ℕ)) × (between : List (List ℕ)) × (b : List ℕ)
    × (bs ≡ front ++ between ++ b ∷ []) × Stands r n parts k front
    × AllByRecursion (IsBetween r n k) between × Carries r n parts (suc k) b
    × (1 ≤ k → missing_in r bs < missing_in r front + k)
    × (AllByRecursion (IsOther r n) between ⊎ (missing_in r bs < missing_in r front + 2))

-- all parts of which a message is joined stand so in a front part of these packets
pub record IsInOrder (r : Reading) (n : Name) (bs : List (List ℕ)) (m : List ℕ) : Type 0 where
  pub parts : List Piece
  pub joined : message_of parts ≡ Some m
  pub last : LastPart
  pub last_is : last_of parts ≡ Some last
  pub front : List (List ℕ)
  pub behind : List (List ℕ)
  pub are : bs ≡ front ++ behind
  pub stand : Stands r n parts last.number front
