-- The packets of a stream that are handed over.
use Rattle.std.specs.Prelude.{◌≡◌, ℕ, List, [], ◌∷◌, ◌++◌, true, Bool, take, Option, Some, None, ⊤}
use Rattle.lpt_text.specs.declared.fault.StreamFault.{StreamFault}
use Rattle.lpt_text.specs.declared.fault.StreamFault.TheVariants.{Read, Write, Memory}
use Rattle.lpt_stream.specs.declared.piece_kind.PieceKind.{PieceKind}
use Rattle.lpt_stream.specs.declared.piece_kind.PieceKind.TheVariants.{Whole, Damaged, Stray}
use Rattle.lpt_stream.specs.declared.cut.Cut.TheVariants.{Resumed}
use Rattle.lpt_stream.specs.Pieces.{Piece, LeadsBy}

-- a fault if nothing is written
abbrev pub not_written : StreamFault → StreamFault
not_written Read = Read
not_written Write = Memory
not_written Memory = Memory

-- what was handed over has grown by these packets
abbrev pub Gains : (old new : Option (List (List ℕ))) → List (List ℕ) → Type 0
Gains None new packets = ⊤
Gains (Some xs) None packets = ⊥
Gains (Some xs) (Some ys) packets = ys ≡ xs ++ packets

-- by a front part of these
abbrev pub GainsPart : (old new : Option (List (List ℕ))) → List (List ℕ) → Type 0
GainsPart old new packets = (n : ℕ) × Gains old new (take n packets)

-- the packet that a piece is, if it is one, in front of others
abbrev pub in_front : PieceKind → List ℕ → List (List ℕ) → List (List ℕ)
in_front Whole octets rest = octets ∷ rest
in_front Damaged octets rest = rest
in_front Stray octets rest = rest

-- the packets among pieces
abbrev pub packets_in : List Piece → List (List ℕ)
packets_in [] = []
packets_in (p ∷ ps) = in_front p.kind p.octets (packets_in ps)

-- a packet is what stands in octets behind some pieces of them, on a link whose longest packet has
-- so many octets
pub record IsPacketIn (longest : ℕ) (all o : List ℕ) : Type 0 where
  pub front : List ℕ
  pub others : List ℕ
  pub are : all ≡ front ++ others
  pub pieces : List Piece
  pub in_step : Bool
  pub rest : List ℕ
  pub leads : LeadsBy (Resumed longest) true front
      (pieces ++ record { kind = Whole; octets = o } ∷ []) in_step rest

-- if the octets are known that come
abbrev pub IsPacketOf : (longest : ℕ) → Option (List ℕ) → List ℕ → Type 0
IsPacketOf longest None o = ⊤
IsPacketOf longest (Some all) o = IsPacketIn longest all o

-- what comes, and how long its longest packet is, is as it was named, if it was
abbrev pub IsNamed : (octets : Option (List ℕ)) → (named : ℕ)
    → (remaining : Option (List ℕ)) → (longest : ℕ) → Type 0
IsNamed None named remaining longest = ⊤
IsNamed (Some all) named remaining longest = (remaining ≡ Some all) × (longest ≡ named)
