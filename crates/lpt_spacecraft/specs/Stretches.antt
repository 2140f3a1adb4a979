-- A stream cut into packets and what is none, by the rule of streams that resume.
use Rattle.std.specs.Prelude.{◌≡◌, ◌⊎◌, ◌<◌, ◌++◌, ◌&&◌, not, ℕ, Bool, true, false, List, [], ◌∷◌, length}
use Rattle.lpt_stream.specs.Pieces.{LeadsBy, Piece, is_framed, is_version, piece_by}
use Rattle.lpt_stream.specs.declared.cut.Cut.TheVariants.{Resumed}
use Rattle.lpt_stream.specs.declared.piece_kind.PieceKind.{PieceKind}
use Rattle.lpt_stream.specs.declared.piece_kind.PieceKind.TheVariants.{Whole, Damaged, Stray}
use Rattle.lpt_spacecraft.specs.declared.passing.Passing.{Passing}

-- whether an octet is astray
abbrev pub is_stray : PieceKind → Bool
is_stray Whole = false
is_stray Damaged = false
is_stray Stray = true

-- Whether a piece is taken: a packet; and if what is none isn't passed over, also a damaged packet
-- of version 0, as long as its header says, of which a node only says that it can't be read.
abbrev pub is_taken : Passing → PieceKind → List ℕ → Bool
is_taken p Whole b = true
is_taken p Damaged b = not p.is_on && (is_version b && is_framed b)
is_taken p Stray b = false

-- octets of a stream: a packet, or a run that was passed over
pub data Stretch : Type 0 where
  Framed : (octets : List ℕ) → Stretch
  Passed : (octets : List ℕ) → Stretch

abbrev pub octets_of : Stretch → List ℕ
octets_of (Framed b) = b
octets_of (Passed b) = b

-- those of all, one behind the other
abbrev pub stretch_octets : List Stretch → List ℕ
stretch_octets [] = []
stretch_octets (s ∷ ss) = octets_of s ++ stretch_octets ss

-- each of these octets as a piece that is no packet
abbrev pub strays_of : List ℕ → List Piece
strays_of [] = []
strays_of (x ∷ xs) = record { kind = Stray; octets = x ∷ [] } ∷ strays_of xs

-- octets astray are at their end: nothing comes, or a packet
abbrev pub EndsStrays : Passing → (in_step : Bool) → (rest : List ℕ) → Type 0
EndsStrays p s rest =
    (rest ≡ []) ⊎ (is_stray (piece_by (Resumed p.longest) s rest).kind ≡ false)

-- These are the pieces of a stretch, with others behind it: a piece that is taken; or, if what is
-- no packet is passed over, a damaged one, or octets astray, all of them.
abbrev pub ArePiecesOf : Passing → Stretch → List Piece → (in_step : Bool) → (rest : List ℕ)
    → Type 0
ArePiecesOf p (Framed b) ps s rest =
    (kind : PieceKind) × (ps ≡ record { kind = kind; octets = b } ∷ [])
    × (is_taken p kind b ≡ true)
ArePiecesOf p (Passed b) ps s rest =
    (p.is_on ≡ true) × (0 < length b)
    × ((ps ≡ record { kind = Damaged; octets = b } ∷ [])
    ⊎ ((ps ≡ strays_of b) × EndsStrays p s rest))

-- a stretch stands in front of these octets, which come in step or not, and others behind it
pub record IsStretch (p : Passing) (s : Bool) (b : List ℕ) (x : Stretch) (t : Bool)
    (rest : List ℕ) : Type 0 where
  pub pieces : List Piece
  pub are : ArePiecesOf p x pieces t rest
  pub leads : LeadsBy (Resumed p.longest) s b pieces t rest
  pub whole : b ≡ octets_of x ++ rest

-- the octets are these stretches, one behind the other, up to others
abbrev pub AreStretches : Passing → (in_step : Bool) → List ℕ → List Stretch → (at_last : Bool)
    → (rest : List ℕ) → Type 0
AreStretches p s b [] t rest = (s ≡ t) × (b ≡ rest)
AreStretches p s b (x ∷ xs) t rest =
    (u : Bool) × (behind : List ℕ) × IsStretch p s b x u behind × AreStretches p u behind xs t rest

-- a stream is these stretches, one behind the other, and a rest; it begins in step
abbrev pub IsCutInto : Passing → (stream : List ℕ) → List Stretch → (rest : List ℕ) → Type 0
IsCutInto p stream ss rest = (t : Bool) × AreStretches p true stream ss t rest

-- ---- as pieces

-- these are the pieces of stretches, one behind the other
abbrev pub AreAllPieces : Passing → List Stretch → List Piece → Type 0
AreAllPieces p [] ps = ps ≡ []
AreAllPieces p (x ∷ xs) ps =
    (qs : List Piece) × (others : List Piece) × (t : Bool) × (rest : List ℕ)
    × (ps ≡ qs ++ others) × ArePiecesOf p x qs t rest × AreAllPieces p xs others
