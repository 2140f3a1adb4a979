-- Where the packets of a stream end.
use Rattle.std.specs.Prelude.{◌≡◌, ℕ, ◌+◌, ◌||◌, Bool, true, false, if◌then◌else◌, List, [], ◌∷◌, ◌++◌, Option, ⊤}
use Rattle.lpt_stream.specs.declared.cut.Cut.{Cut}
use Rattle.lpt_stream.specs.declared.cut.Cut.TheVariants.{Resumed}
use Rattle.lpt_stream.specs.declared.piece_kind.PieceKind.{PieceKind}
use Rattle.lpt_stream.specs.declared.piece_kind.PieceKind.TheVariants as kinds
use Rattle.lpt_stream.specs.Pieces.{Piece, is_framed, is_version, octets_in, up_to_limit}
use Rattle.lpt_stream.specs.Streams.{length_at}
use Rattle.lpt_ground_run.specs.declared.cutting.Cutting.{Cutting}
use Rattle.lpt_ground_run.specs.declared.halt.Halt.{Halt}
use Rattle.lpt_ground_run.specs.declared.halt.Halt.TheVariants.{End, Closed, Stray, Within}
use Rattle.lpt_ground_run.specs.Handing.{Gains, packets_in}

-- how a stream is cut
abbrev pub cut_of : Cutting → Cut
cut_of c = Resumed c.longest

-- whether the stream was read to its end, as far as that is known
abbrev pub is_end : Halt → Bool
is_end End = true
is_end Closed = false
is_end (Stray n) = false
is_end (Within n o) = false

-- where it ends if more is taken behind a packet, or isn't
abbrev pub halt_of : (more : Bool) → Halt
halt_of true = End
halt_of false = Closed

-- where it ends at a damaged packet, which begins at this place: the stream does within it, or, if
-- it doesn't resume, it is of another version
abbrev pub halt_damaged : (resumes : Bool) → (place : ℕ) → List ℕ → Halt
halt_damaged r n b =
    if is_framed b then if r || is_version b then End else Stray n else Within n (length_at b)

-- where it ends at a piece that begins at this place, unless it goes on behind it
abbrev pub halt_at : (resumes : Bool) → (place : ℕ) → PieceKind → List ℕ → Halt
halt_at r n kinds.Whole b = End
halt_at r n kinds.Damaged b = halt_damaged r n b
halt_at r n kinds.Stray b = if r then End else Stray n

-- it goes on behind each of these pieces
abbrev pub ArePast : (resumes : Bool) → List Piece → Type 0
ArePast r [] = ⊤
ArePast r (p ∷ ps) = (is_end (halt_at r 0 p.kind p.octets) ≡ true) × ArePast r ps

-- how many octets a piece is with which no packet begins
abbrev pub stray_of : PieceKind → ℕ
stray_of kinds.Whole = 0
stray_of kinds.Damaged = 0
stray_of kinds.Stray = 1

-- how many of them there are
abbrev pub strays_in : List Piece → ℕ
strays_in [] = 0
strays_in (p ∷ ps) = stray_of p.kind + strays_in ps

-- how many are passed over
abbrev pub passed_in : (resumes : Bool) → List Piece → ℕ
passed_in true ps = strays_in ps
passed_in false ps = 0

-- a count has risen by so many, as far as it is told
abbrev pub Rises : (old new : ℕ) → (by : ℕ) → Type 0
Rises old new n = up_to_limit new ≡ up_to_limit (old + n)

-- the last piece is the first behind which it doesn't go on, in a stream that begins at this place,
-- and this says so
pub record EndsAt (resumes : Bool) (from : ℕ) (pieces : List Piece) (halt : Halt) : Type 0 where
  pub front : List Piece
  pub last : Piece
  pub is : pieces ≡ front ++ last ∷ []
  pub past : ArePast resumes front
  pub place : halt ≡ halt_at resumes (up_to_limit (from + octets_in front)) last.kind last.octets

-- the pieces end there: at the stream's end, or where no more is taken, and it went on behind each
-- of them; or at the first behind which it doesn't
abbrev pub HaltsAt : (resumes : Bool) → (from : ℕ) → (more : Bool) → List Piece → Halt → Type 0
HaltsAt r from more ps End = (more ≡ true) × ArePast r ps
HaltsAt r from more ps Closed = (more ≡ false) × ArePast r ps
HaltsAt r from more ps (Stray n) = EndsAt r from ps (Stray n)
HaltsAt r from more ps (Within n o) = EndsAt r from ps (Within n o)

-- the packets among these pieces were handed over, in their order, up to there
pub record Hands (resumes : Bool) (from : ℕ) (more : Bool) (halt : Halt)
    (old new : Option (List (List ℕ))) (before after : ℕ) (pieces : List Piece) : Type 0 where
  pub gains : Gains old new (packets_in pieces)
  pub rises : Rises before after (passed_in resumes pieces)
  pub halts : HaltsAt resumes from more pieces halt

-- the same by one that cuts as it did at first
abbrev pub HasHanded : (from : ℕ) → (first now : Cutting) → (more : Bool) → Halt
    → (old new : Option (List (List ℕ))) → (before after : ℕ) → List Piece → Type 0
HasHanded from first now more halt old new before after pieces =
    (now ≡ first) × Hands first.resumes from more halt old new before after pieces
