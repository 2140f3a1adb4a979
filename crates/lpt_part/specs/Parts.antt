-- The bodies of parts, and the first fault of those that are none.
use Rattle.std.specs.Prelude.{◌≡◌, ℕ, ◌+◌, ◌-◌, ◌*◌, ◌<◌, ◌==◌, ◌&&◌, nat_lt, nat_le, Bool, true, false, if◌then◌else◌, List, ◌++◌, length, drop, Option, Result, Ok, Err}
use Rattle.std.specs.Result.{result_ok}
use Rattle.lpt_part.specs.Identifiers.{TransactionId}
use Rattle.lpt_packet.specs.Numbers.{be, word_at}
use Rattle.lpt_packet.specs.Sizes.{longest_packet}
use Rattle.lpt_part.specs.declared.kind.Kind.{Kind}
use Rattle.lpt_part.specs.declared.kind.Kind.TheVariants.{First, Middle, Last}
use Rattle.lpt_part.specs.declared.fault.PartFault.{PartFault}
use Rattle.lpt_part.specs.declared.fault.PartFault.TheVariants.{ShortPart, Zero, KindNumber, PartLength}
use Rattle.lpt_part.specs.declared.part.Part.{Part}
use Rattle.lpt_part.specs.Splitting.{kind_at, part_count, part_of}
use Rattle.lpt_part.specs.PartRanges.{PartFits, least_number, greatest_number, least_length}

-- a part, without where its octets lie in memory
pub record Piece : Type 0 where
  pub id : TransactionId
  pub number : ℕ
  pub kind : Kind
  pub octets : List ℕ

-- a part without its borrow
abbrev pub piece : Part → Piece
piece t = record { id = t.id; number = t.number; kind = t.kind; octets = t.octets.now }

-- part k of a message, under its identifier
abbrev pub nth_part : (p id : ℕ) → List ℕ → ℕ → Piece
nth_part p id m k =
    record {
      id = id;
      number = k;
      kind = kind_at k (part_count (length m) p);
      octets = part_of m p k;
    }

-- transaction identifier 16 bits, part sequence number 16 bits, the part's octets
unfoldable pub body_of : Piece → List ℕ
body_of q = be q.id 2 ++ be q.number 2 ++ q.octets

-- the body is this part, for parts of p octets
pub record IsPart (p : ℕ) (body : List ℕ) (q : Piece) : Type 0 where
  pub id_fits : q.id < 65536
  pub part_fits : PartFits q.kind q.number (length q.octets) p
  pub spelled : body ≡ body_of q

-- whether a part of this kind may have this number
abbrev pub number_test : Kind → ℕ → Bool
number_test kind number =
    nat_le (least_number kind) number && nat_le number (greatest_number kind)

-- whether a part of this kind and number may have so many octets
abbrev pub length_test : Kind → ℕ → ℕ → ℕ → Bool
length_test kind number len p =
    nat_le (least_length kind p) len && nat_le len p && nat_le ((number - 1) * p + len) longest_packet

-- the part that stands at a body's places
abbrev pub piece_at : Kind → List ℕ → Piece
piece_at kind body = record {
  id = word_at body 0;
  number = word_at body 2;
  kind = kind;
  octets = drop 4 body;
}

-- the part that a body is, or the first test that it fails, in this order
unfoldable pub part_verdict : Kind → List ℕ → ℕ → Result Piece PartFault
part_verdict kind body p =
    if nat_lt (length body) 4 then Err ShortPart
    else if word_at body 2 == 0 then Err Zero
    else if number_test kind (word_at body 2) then
    (if length_test kind (word_at body 2) (length body - 4) p then Ok (piece_at kind body)
    else Err PartLength)
    else Err KindNumber

-- what a reader answered is this verdict, and the part that was read is for parts of p octets
abbrev pub Gives : ℕ → Result Part PartFault → Result Piece PartFault → Type 0
Gives p (Ok t) v = (v ≡ Ok (piece t)) × (t.p ≡ p)
Gives p (Err e) v = v ≡ Err e

-- the part that a body is, if it is one
abbrev pub part_in : ℕ → Kind → List ℕ → Option Piece
part_in p kind body = result_ok (part_verdict kind body p)

-- whether two kinds are the same
abbrev pub same_kind : Kind → Kind → Bool
same_kind First First = true
same_kind First Middle = false
same_kind First Last = false
same_kind Middle First = false
same_kind Middle Middle = true
same_kind Middle Last = false
same_kind Last First = false
same_kind Last Middle = false
same_kind Last Last = true
