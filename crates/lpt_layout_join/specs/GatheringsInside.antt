-- What becomes of what is kept, if a part is added to what is kept of its transaction.
use Rattle.std.specs.Prelude.{◌≡◌, ℕ, Bool, true, false, List, [], ◌∷◌, ◌++◌, length, Some, None}
use Rattle.lpt_carried.specs.declared.name.Name.{Name}
use Rattle.lpt_carried.specs.declared.reading.Reading.{Reading}
use Rattle.lpt_carried.specs.Carried.{part_carried, part_of, same_name}
use Rattle.lpt_part.specs.Parts as part
use Rattle.lpt_stream.specs.declared.piece_kind.PieceKind.TheVariants.{Whole}
use Rattle.lpt_stream.specs.Pieces.{Piece, octets_in, packets_of, up_to_limit}
use Rattle.lpt_layout_join.specs.declared.gathering.Gathering.{Gathering}
use Rattle.lpt_layout_join.specs.declared.gatherings.Gatherings.{Gatherings}
use Rattle.lpt_layout_join.specs.Counts.{all_counted, nothing_counted}
use Rattle.lpt_layout_join.specs.Gatherings.{Gives, kept_of}

-- what some pieces give of a transaction has become what they and a packet give that carries this
-- part of it
abbrev pub Gains : Name → (missing place : ℕ) → part.Piece → (old new : Gathering) → Type 0
Gains n missing place q old new =
    (r : Reading) (ps : List Piece) (b : List ℕ) → Gives r n ps old
    → missing ≡ (all_counted r nothing_counted (packets_of ps ++ b ∷ [])).missing
    → place ≡ up_to_limit (octets_in ps)
    → part_of n (part_carried r b) ≡ Some q
    → Gives r n (ps ++ record { kind = Whole; octets = b } ∷ []) new

-- it is kept if that was
pub record IsAdded (n : Name) (missing place : ℕ) (q : part.Piece) (old new : Gatherings) :
    Type 0 where
  pub was : Gathering
  pub now : Gathering
  pub there : kept_of old n ≡ Some was
  pub kept : kept_of new n ≡ Some now
  pub gains : Gains n missing place q was now
  pub others : (m : Name) → same_name n m ≡ false → kept_of new m ≡ kept_of old m
  pub size : length new.kept.entries ≡ length old.kept.entries
  pub more : new.has_more ≡ old.has_more

-- it is, if something was kept of the transaction; else nothing has changed
abbrev pub IsAddedTo :
    Name → (missing place : ℕ) → part.Piece → (old new : Gatherings) → (kept : Bool) → Type 0
IsAddedTo n missing place q old new true = IsAdded n missing place q old new
IsAddedTo n missing place q old new false = (kept_of old n ≡ None) × (new ≡ old)
