-- The bodies of parts of a layout, and the first fault of those that are none.
use Rattle.std.specs.Prelude.{◌≡◌, ℕ, ◌+◌, ◌-◌, ◌^◌, ◌<◌, ◌≤◌, ◌==◌, ◌&&◌, nat_lt, nat_le, Bool, true, if◌then◌else◌, List, ◌++◌, length, drop, Option, Some, None, Result, Ok, Err}
use Rattle.lpt_packet.specs.Numbers.{be}
use Rattle.lpt_part.specs.declared.fault.PartFault.{PartFault}
use Rattle.lpt_part.specs.declared.fault.PartFault.TheVariants.{ShortPart, Zero, KindNumber, PartLength}
use Rattle.lpt_part.specs.declared.kind.Kind.{Kind}
use Rattle.lpt_part.specs.declared.kind.Kind.TheVariants.{First, Middle, Last}
use Rattle.lpt_part.specs.PartRanges.{LengthFits}
use Rattle.lpt_part.specs.Parts.{Piece, length_test}
use Rattle.lpt_layout.specs.declared.layout.PartLayout.{PartLayout}
use Rattle.lpt_layout.specs.declared.part.PartAs.{PartAs}
use Rattle.lpt_layout.specs.Numbers.{octets_of, number_at}

-- a part size is 1 to 65,535 octets
abbrev pub IsPartSizeAs : ℕ → Type 0
IsPartSizeAs p = (1 ≤ p) × (p ≤ 65535)

-- a number of octets, if it is a part size
abbrev pub a_size : ℕ → Option ℕ
a_size n = if nat_le 1 n && nat_le n 65535 then Some n else None

-- a part without its borrow
abbrev pub piece : PartAs → Piece
piece t = record { id = t.id; number = t.number; kind = t.kind; octets = t.octets.now }

-- identifier and number are as wide as the layout has them
pub record PieceFits (l : PartLayout) (q : Piece) : Type 0 where
  pub id_fits : q.id < 256 ^ octets_of l.id
  pub number_fits : q.number < 256 ^ octets_of l.number

-- transaction identifier and part sequence number, each as wide as the layout has it; then the
-- part's octets
unfoldable pub body_as : PartLayout → Piece → List ℕ
body_as l q = be q.id (octets_of l.id) ++ be q.number (octets_of l.number) ++ q.octets

-- where the part's octets begin
abbrev pub octets_at : PartLayout → ℕ
octets_at l = octets_of l.id + octets_of l.number

-- whether a part of this kind may have this number
abbrev pub is_numbered : Kind → ℕ → Bool
is_numbered First number = number == 1
is_numbered Middle number = nat_le 2 number
is_numbered Last number = nat_le 2 number

-- the body is this part, for parts of p octets
pub record IsPartAs (l : PartLayout) (p : ℕ) (body : List ℕ) (q : Piece) : Type 0 where
  pub fits : PieceFits l q
  pub numbered : is_numbered q.kind q.number ≡ true
  pub length_fits : LengthFits q.kind q.number (length q.octets) p
  pub spelled : body ≡ body_as l q

-- the part that stands at a body's places
abbrev pub piece_at : PartLayout → Kind → List ℕ → Piece
piece_at l kind body = record {
  id = number_at l.id body 0;
  number = number_at l.number body (octets_of l.id);
  kind = kind;
  octets = drop (octets_at l) body;
}

-- the part that a body is, or the first test that it fails, in this order
unfoldable pub part_verdict_as : PartLayout → Kind → List ℕ → ℕ → Result Piece PartFault
part_verdict_as l kind body p =
    let number = number_at l.number body (octets_of l.id) in
    if nat_lt (length body) (octets_at l) then Err ShortPart
    else if number == 0 then Err Zero
    else if is_numbered kind number then
    (if length_test kind number (length body - octets_at l) p then Ok (piece_at l kind body)
    else Err PartLength)
    else Err KindNumber

-- what a reader answered is this verdict
abbrev pub Gives : Result PartAs PartFault → Result Piece PartFault → Type 0
Gives (Ok t) v = v ≡ Ok (piece t)
Gives (Err e) v = v ≡ Err e

-- the part size that a part tells which isn't the last
abbrev pub told_size : PartLayout → Kind → List ℕ → Option ℕ
told_size l Last body = None
told_size l First body = a_size (length body - octets_at l)
told_size l Middle body = a_size (length body - octets_at l)
