-- What the packets of a stream give of the transaction of one name.
use Rattle.std.specs.Prelude.{ℕ, ◌+◌, ◌==◌, ◌||◌, Bool, false, if◌then◌else◌, List, [], ◌∷◌, length, Option, Some, None, is_some}
use Rattle.std.specs.List.{list_any}
use Rattle.lpt_part.specs.declared.kind.Kind.TheVariants.{Last}
use Rattle.lpt_part.specs.Parts.{Piece, same_kind}
use Rattle.lpt_stream.specs.declared.piece_kind.PieceKind.{PieceKind}
use Rattle.lpt_stream.specs.declared.piece_kind.PieceKind.TheVariants.{Whole, Damaged, Stray}
use Rattle.lpt_stream.specs.Pieces as stream
use Rattle.lpt_carried.specs.declared.name.Name.{Name}
use Rattle.lpt_carried.specs.declared.reading.Reading.{Reading}
use Rattle.lpt_carried.specs.Carried.{part_carried, part_of}
use Rattle.lpt_layout_join.specs.declared.order.Order.{Order}
use Rattle.lpt_layout_join.specs.Came.{Came, last_of, nothing_came, step}
use Rattle.lpt_layout_join.specs.Counts.{Counted, packet_counted, nothing_counted}
use Rattle.lpt_layout_join.specs.Orders.{is_in_order, no_order, order_after}

-- what came of it; which parts of it came in their order, and whether all of them did so, with few
-- counts missing between them; and the counts that are missing
pub record Gathered : Type 0 where
  pub came : Came
  pub order : Order
  pub sure : Bool
  pub counts : Counted

abbrev pub nothing_gathered : Gathered
nothing_gathered = record {
  came = nothing_came;
  order = no_order;
  sure = false;
  counts = nothing_counted;
}

-- with a part of this number, up to which so many counts are missing; one that contradicts those
-- that came ends it
abbrev pub order_by : Order → (against : Bool) → (number missing : ℕ) → Order
order_by o against n missing = if against then no_order else order_after o n missing

-- these came, in this order
abbrev pub with_came : Gathered → Came → Order → Gathered
with_came g c o = record g {
  came = c;
  order = o;
  sure = g.sure || is_in_order (last_of c.parts) o;
}

-- a part came
abbrev pub with_own : Gathered → Piece → Came → Gathered
with_own g q came =
    with_came g came (order_by g.order (is_some came.against) q.number g.counts.missing)

-- a packet came that carries this part of it, or none
abbrev pub with_part : Gathered → Option Piece → Gathered
with_part g None = g
with_part g (Some q) = with_own g q (step g.came 0 q)

-- the counts that are missing before a packet are counted
abbrev pub with_counts : Reading → Gathered → List ℕ → Gathered
with_counts r g b = record g { counts = packet_counted r g.counts b }

-- a packet more came
abbrev pub next : Reading → Name → Gathered → List ℕ → Gathered
next r n g b = with_part (with_counts r g b) (part_of n (part_carried r b))

-- packets came, one behind the other
abbrev pub all_gathered : Reading → Name → Gathered → List (List ℕ) → Gathered
all_gathered r n g [] = g
all_gathered r n g (b ∷ bs) = all_gathered r n (next r n g b) bs

-- what packets give
unfoldable pub parts_gathered : Reading → Name → List (List ℕ) → Gathered
parts_gathered r n bs = all_gathered r n nothing_gathered bs

-- ---- which parts came

-- whether it is part k
abbrev pub is_part : (k : ℕ) → Option Piece → Bool
is_part k None = false
is_part k (Some q) = q.number == k

-- whether it is a last part
abbrev pub is_end : Option Piece → Bool
is_end None = false
is_end (Some q) = same_kind q.kind Last

-- whether one of the packets carries a part k of the transaction
abbrev pub came : Reading → Name → (k : ℕ) → List (List ℕ) → Bool
came r n k bs = list_any (λ b. is_part k (part_of n (part_carried r b))) bs

-- whether one of them carries a last part of it
abbrev pub has_ended : Reading → Name → List (List ℕ) → Bool
has_ended r n bs = list_any (λ b. is_end (part_of n (part_carried r b))) bs

-- whether one of them carries any part of it
abbrev pub carry : Reading → Name → List (List ℕ) → Bool
carry r n bs = list_any (λ b. is_some (part_of n (part_carried r b))) bs

-- ---- where a part contradicts those before it

-- the part of the name that a piece of a stream carries, if it is a packet that does
abbrev pub part_in : Reading → Name → PieceKind → List ℕ → Option Piece
part_in r n Whole b = part_of n (part_carried r b)
part_in r n Damaged b = None
part_in r n Stray b = None

-- whether a part breaks off what came before it, or came behind such a one
abbrev pub breaks : Came → Option Piece → Bool
breaks c None = false
breaks c (Some q) = is_some (step c 0 q).against

-- what came, with a part more or none
abbrev pub came_by : Came → Option Piece → Came
came_by c None = c
came_by c (Some q) = step c 0 q

-- a place, if there is one; or the other
abbrev pub place_or : Option ℕ → Option ℕ → Option ℕ
place_or (Some at) other = Some at
place_or None other = other

-- the place, if it is one
abbrev pub place_if : Bool → ℕ → Option ℕ
place_if there at = if there then Some at else None

-- the place of the first piece that carries a part which contradicts those before it, of pieces
-- that begin at a place
abbrev pub against_from : Reading → Name → Came → (at : ℕ) → List stream.Piece → Option ℕ
against_from r n c at [] = None
against_from r n c at (p ∷ ps) =
    place_or (place_if (breaks c (part_in r n p.kind p.octets)) at)
    (against_from r n (came_by c (part_in r n p.kind p.octets)) (at + length p.octets) ps)

-- the same of all pieces of a stream
abbrev pub first_against : Reading → Name → List stream.Piece → Option ℕ
first_against r n ps = against_from r n nothing_came 0 ps
