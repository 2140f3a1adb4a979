-- Packets that carry the parts of one message.
use Rattle.std.specs.Prelude.{◌≡◌, ◌⊎◌, ◌<◌, ◌≤◌, ℕ, Bool, true, false, not, List, [], ◌∷◌, length, Option, Some, None, Result, Ok, Err}
use Rattle.std.specs.List.{AllByRecursion}
use Rattle.lpt_packet.specs.Sizes.{longest_packet}
use Rattle.lpt_layout.specs.Parts.{IsPartSizeAs}
use Rattle.lpt_part.specs.Parts.{Piece, nth_part}
use Rattle.lpt_part.specs.Splitting.{part_count}
use Rattle.lpt_layout_join.specs.declared.last_part.LastPart.{LastPart}
use Rattle.lpt_carried.specs.declared.name.Name.{Name}
use Rattle.lpt_carried.specs.declared.reading.Reading.{Reading}
use Rattle.lpt_carried.specs.declared.skip.Skip.{Skip}
use Rattle.lpt_layout_join.specs.Came.{last_of, size_of}
use Rattle.lpt_carried.specs.Carried.{Named, part_carried, name_of, same_name}

-- a message is split into parts of p octets
pub record IsSplit (p : ℕ) (m : List ℕ) : Type 0 where
  pub size : IsPartSizeAs p
  pub long : p < length m
  pub short : length m ≤ longest_packet

-- part k of a message, of the transaction of a name
abbrev pub part_named : Name → (p : ℕ) → List ℕ → ℕ → Named
part_named n p m k = record { user = n.user; piece = nth_part p n.id m k }

-- a packet carries one of the message's parts
pub record CarriesOne (r : Reading) (n : Name) (p : ℕ) (m b : List ℕ) : Type 0 where
  pub number : ℕ
  pub some : 1 ≤ number
  pub within : number ≤ part_count (length m) p
  pub carries : part_carried r b ≡ Ok (part_named n p m number)

-- a packet carries no part, or, if one transaction was asked for, one of another
abbrev pub is_other : (asked : Option Name) → Result Named Skip → Bool
is_other asked (Err e) = true
is_other None (Ok c) = false
is_other (Some n) (Ok c) = not (same_name n (name_of c))

-- each packet carries one of the message's parts, or none that matters
abbrev pub OneOrOther : Reading → (asked : Option Name) → Name → ℕ → List ℕ → List ℕ → Type 0
OneOrOther r asked n p m b = CarriesOne r n p m b ⊎ (is_other asked (part_carried r b) ≡ true)

abbrev pub AreOneOrOther : Reading → (asked : Option Name) → Name → ℕ → List ℕ
    → List (List ℕ) → Type 0
AreOneOrOther r asked n p m bs = AllByRecursion (OneOrOther r asked n p m) bs

-- part k is among packets
abbrev pub IsAmong : Reading → Name → ℕ → List ℕ → ℕ → List (List ℕ) → Type 0
IsAmong r n p m k [] = ⊥
IsAmong r n p m k (b ∷ bs) = (part_carried r b ≡ Ok (part_named n p m k)) ⊎ IsAmong r n p m k bs

-- each part is
abbrev pub EachIsAmong : Reading → Name → ℕ → List ℕ → List (List ℕ) → Type 0
EachIsAmong r n p m bs =
    (k : ℕ) → 1 ≤ k → k ≤ part_count (length m) p → IsAmong r n p m k bs

-- no transaction was asked for, or this one
abbrev pub IsAsked : (asked : Option Name) → Name → Type 0
IsAsked None n = Unit {0}
IsAsked (Some k) n = k ≡ n

-- octets of a part have the length that all parts but the last have, or are the last one's
abbrev pub HasItsLength : List Piece → (number : ℕ) → List ℕ → Type 0
HasItsLength qs k x =
    (size_of qs ≡ Some (length x))
    ⊎ ((l : LastPart) × (last_of qs ≡ Some l) × (l.number ≡ k))
