-- What came of one transaction: the parts that agree, and the first that doesn't.
use Rattle.std.specs.Prelude.{ℕ, zero, suc, ◌+◌, ◌==◌, ◌||◌, ◌&&◌, max, nat_le, nat_lt, Bool, true, false, not, if◌then◌else◌, List, [], ◌∷◌, ◌++◌, length, Option, Some, None, is_some, bytes_eq}
use Rattle.std.specs.Option.{option_or}
use Rattle.lpt_part.specs.declared.kind.Kind.{Kind}
use Rattle.lpt_part.specs.declared.kind.Kind.TheVariants.{First, Middle, Last}
use Rattle.lpt_part.specs.Parts.{Piece, length_test}
use Rattle.lpt_layout_join.specs.declared.last_part.LastPart.{LastPart}

-- what is first told of parts
abbrev pub first_told : {A : Type 0} → (Piece → Option A) → List Piece → Option A
first_told tell [] = None
first_told tell (q ∷ qs) = option_or (tell q) (first_told tell qs)

-- the octets of a part of this number
abbrev pub octets_told : ℕ → Piece → Option (List ℕ)
octets_told n q = if q.number == n then Some q.octets else None

-- a part tells the part size, unless it is a last one
abbrev pub size_by : Kind → ℕ → Option ℕ
size_by First len = Some len
size_by Middle len = Some len
size_by Last len = None

abbrev pub size_told : Piece → Option ℕ
size_told q = size_by q.kind (length q.octets)

-- a last part tells how many parts there are
abbrev pub last_by : Kind → (number len : ℕ) → Option LastPart
last_by First number len = None
last_by Middle number len = None
last_by Last number len = Some (record { number = number; len = len })

abbrev pub last_told : Piece → Option LastPart
last_told q = last_by q.kind q.number (length q.octets)

-- of parts: the octets of the first of a number, the part size, the last part
abbrev pub octets_of : List Piece → ℕ → Option (List ℕ)
octets_of qs n = first_told (octets_told n) qs

abbrev pub size_of : List Piece → Option ℕ
size_of qs = first_told size_told qs

abbrev pub last_of : List Piece → Option LastPart
last_of qs = first_told last_told qs

-- the greatest number of a part
abbrev pub highest : List Piece → ℕ
highest [] = 0
highest (q ∷ qs) = max q.number (highest qs)

-- how many of the parts 1 to n are there
abbrev pub count_to : (ℕ → Option (List ℕ)) → ℕ → ℕ
count_to part zero = 0
count_to part (suc n) = count_to part n + (if is_some (part (suc n)) then 1 else 0)

-- how many numbers have a part
abbrev pub count_in : List Piece → ℕ
count_in qs = count_to (octets_of qs) (highest qs)

-- ---- what contradicts

-- the octets of its number are others
abbrev pub other_octets : Option (List ℕ) → List ℕ → Bool
other_octets None octets = false
other_octets (Some x) octets = not (bytes_eq x octets)

-- its length isn't one for this part size
abbrev pub other_size : Option ℕ → Piece → Bool
other_size None q = false
other_size (Some p) q = not (length_test q.kind q.number (length q.octets) p)

-- it isn't before the last part, or that is none for its length
abbrev pub behind_last : Option LastPart → Piece → Bool
behind_last None q = false
behind_last (Some l) q =
    nat_le l.number q.number || not (length_test Last l.number l.len (length q.octets))

-- as a last part it isn't the one that came, or parts came that are behind it
abbrev pub other_last : Option LastPart → (greatest : ℕ) → Piece → Bool
other_last None greatest q = nat_le q.number greatest
other_last (Some l) greatest q = not (l.number == q.number)

abbrev pub other_end : Kind → Option LastPart → (greatest : ℕ) → Piece → Bool
other_end First last greatest q = behind_last last q
other_end Middle last greatest q = behind_last last q
other_end Last last greatest q = other_last last greatest q

-- a part is against this
abbrev pub is_against : Option (List ℕ) → Option ℕ → Option LastPart → (greatest : ℕ) → Piece → Bool
is_against same size last greatest q =
    other_octets same q.octets || other_size size q || other_end q.kind last greatest q

-- a part is against those that came: its number has other octets, its length isn't theirs, or it
-- isn't where the last part has it
abbrev pub contradicts : List Piece → Piece → Bool
contradicts qs q =
    is_against (octets_of qs q.number) (size_of qs) (last_of qs) (highest qs) q

-- whether this very part is among those that came
abbrev pub has_part : List Piece → Piece → Bool
has_part qs q = if contradicts qs q then false else is_some (octets_of qs q.number)

-- ---- what is kept

-- the parts before the first that contradicts those before it, and the place of its packet
pub record Came : Type 0 where
  pub parts : List Piece
  pub against : Option ℕ

abbrev pub nothing_came : Came
nothing_came = record { parts = []; against = None }

-- with a part more, whose packet is at this place
abbrev pub step : Came → (place : ℕ) → Piece → Came
step c place q =
    if is_some c.against then c
    else if contradicts c.parts q then record c { against = Some place }
    else record c { parts = c.parts ++ q ∷ [] }

-- ---- the message

-- octets aren't these
abbrev pub differ : List ℕ → Option (List ℕ) → Bool
differ x None = true
differ x (Some y) = not (bytes_eq x y)

-- octets came of a number, and of the other's number others or none
abbrev pub is_other : Option (List ℕ) → Option (List ℕ) → Bool
is_other None others = false
is_other (Some x) others = differ x others

-- for no number up to this one
abbrev pub none_other : (part others : ℕ → Option (List ℕ)) → ℕ → Bool
none_other part others zero = true
none_other part others (suc n) =
    if is_other (part (suc n)) (others (suc n)) then false else none_other part others n

-- parts end as these do, behind which no more come: with the same last part, or before it
abbrev pub ends_before : Option LastPart → (greatest number : ℕ) → Bool
ends_before None greatest number = nat_lt greatest number
ends_before (Some l) greatest number = l.number == number

abbrev pub ends_in : Option LastPart → (greatest : ℕ) → Option LastPart → Bool
ends_in last greatest None = false
ends_in last greatest (Some w) = ends_before last greatest w.number

-- whether each of these parts is one of those, with which a message is whole
abbrev pub are_of : (parts whole : List Piece) → Bool
are_of qs whole =
    ends_in (last_of qs) (highest qs) (last_of whole)
    && none_other (octets_of qs) (octets_of whole) (highest qs)

-- octets, and more of them, if both are there
abbrev pub and_more : Option (List ℕ) → Option (List ℕ) → Option (List ℕ)
and_more (Some a) (Some b) = Some (a ++ b)
and_more (Some a) None = None
and_more None b = None

-- the octets of parts 1 to n, one behind the other, if each is there
abbrev pub octets_joined : (ℕ → Option (List ℕ)) → ℕ → Option (List ℕ)
octets_joined part zero = Some []
octets_joined part (suc n) = and_more (octets_joined part n) (part (suc n))

abbrev pub joined_by : (ℕ → Option (List ℕ)) → Option LastPart → Option (List ℕ)
joined_by part None = None
joined_by part (Some l) = octets_joined part l.number

-- the octets of all parts up to the last one
abbrev pub message_of : List Piece → Option (List ℕ)
message_of qs = joined_by (octets_of qs) (last_of qs)

-- ---- what is held

-- a length is no more than the longest packet's
abbrev pub is_small : Option ℕ → Bool
is_small None = true
is_small (Some n) = nat_le n 65542

abbrev pub is_small_last : Option LastPart → Bool
is_small_last None = true
is_small_last (Some l) = nat_le l.len 65542
