-- What is read of a stream: what it says of a memory, and how much of it is passed over.
use Rattle.std.specs.Prelude.{◌≡◌, ℕ, Bool, true, false, List, [], ◌∷◌, length, count_by, flat_map, Option, Some, None}
use Rattle.lpt_stream.specs.declared.piece_kind.PieceKind.{PieceKind}
use Rattle.lpt_stream.specs.declared.piece_kind.PieceKind.TheVariants.{Damaged, Stray}
use Rattle.lpt_stream.specs.Pieces.{Piece, up_to_limit}
use Rattle.lpt_layout.specs.declared.layout.Layout.{Layout}
use Rattle.lpt_compare.specs.Checks.{Saying, Unread, APart, Foreign, checks_of, piece_said}
use Rattle.lpt_compare.specs.declared.checks.Checks.{Checks}
use Rattle.lpt_compare.specs.declared.others.Others.{Others}

-- as many octets as their header says, which are no packet
abbrev pub is_damaged : PieceKind → Bool
is_damaged Damaged = true
is_damaged other = false

-- an octet that is part of no packet
abbrev pub is_stray : PieceKind → Bool
is_stray Stray = true
is_stray other = false

-- of so many damaged and stray pieces there are among these
pub record AreCounted (pieces : List Piece) (c : Checks) : Type 0 where
  pub damaged_are : c.damaged ≡ up_to_limit (count_by (λ (p : Piece). is_damaged p.kind) pieces)
  pub stray_are : c.stray ≡ up_to_limit (count_by (λ (p : Piece). is_stray p.kind) pieces)

-- a check report that isn't read
abbrev pub is_unread : Saying → Bool
is_unread Unread = true
is_unread _ = false

-- a part of a message
abbrev pub is_part : Saying → Bool
is_part APart = true
is_part _ = false

-- the APID of a check report or a part that is of another one
abbrev pub apid_of : Saying → List ℕ
apid_of (Foreign apid) = apid ∷ []
apid_of _ = []

-- the first of them
abbrev pub first_of : List ℕ → Option ℕ
first_of [] = None
first_of (a ∷ rest) = Some a

-- so many of these APIDs, and the first of them
pub record AreOthers (apids : List ℕ) (o : Others) : Type 0 where
  pub count_is : o.count ≡ up_to_limit (length apids)
  pub first_is : o.first ≡ first_of apids

-- of so many check reports that aren't read, parts, and check reports and parts of other APIDs
-- there are among these
pub record ArePassed (l : Layout) (apid memory : ℕ) (pieces : List Piece) (c : Checks) : Type 0
  where
    pub unread_are : c.unread
        ≡ up_to_limit (count_by
        (λ (p : Piece). is_unread (piece_said l apid memory p.kind p.octets))
        pieces)
    pub parts_are : c.parts
        ≡ up_to_limit (count_by (λ (p : Piece). is_part (piece_said l apid memory p.kind p.octets))
        pieces)
    pub others_are : AreOthers
        (flat_map (λ (p : Piece). apid_of (piece_said l apid memory p.kind p.octets)) pieces)
        c.others

-- what the pieces of a stream say of a memory, and how many of them are no packet, check reports
-- that aren't read, parts, and of other APIDs
pub record AreChecks (l : Layout) (apid memory : ℕ) (pieces : List Piece) (c : Checks) : Type 0
  where
    pub areas_are : c.areas.items ≡ checks_of l apid memory pieces
    pub counted : AreCounted pieces c
    pub passed : ArePassed l apid memory pieces c
