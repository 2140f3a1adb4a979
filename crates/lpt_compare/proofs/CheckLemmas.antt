-- What one more piece says.
use Rattle.std.proofs.Common.{◌≡◌, ◌∙◌, ap, refl, ℕ, List, [], ◌∷◌, ◌++◌, append-nil}
use Rattle.std.specs.List.{flat_map}
use Rattle.std.proofs.lemmas.Grind.{flat_map-append}
use Rattle.lpt_stream.specs.declared.piece_kind.PieceKind.{PieceKind}
use Rattle.lpt_stream.specs.declared.piece_kind.PieceKind.TheVariants.{Whole, Damaged, Stray}
use Rattle.lpt_stream.specs.Pieces.{Piece, packet_before, packets_of}
use Rattle.lpt_layout.specs.declared.layout.Layout.{Layout}
use Rattle.lpt_stream.proofs.CutLemmas.{packets-next}
use Rattle.lpt_compare.specs.Checks.{checks_in, checks_of, areas_in, piece_said}

one_piece : (l : Layout) (a m : ℕ) (k : PieceKind) (b : List ℕ)
    → flat_map (checks_in l a m) (packet_before k b []) ≡ areas_in (piece_said l a m k b)
one_piece l a m Whole b = append-nil (checks_in l a m b)
one_piece l a m Damaged b = refl
one_piece l a m Stray b = refl

pub checks-next : (l : Layout) (a m : ℕ) (ps : List Piece) (p : Piece)
    → checks_of l a m (ps ++ p ∷ [])
    ≡ checks_of l a m ps ++ areas_in (piece_said l a m p.kind p.octets)
checks-next l a m ps p =
    ap (flat_map (checks_in l a m)) (packets-next ps p)
    ∙ flat_map-append (checks_in l a m) (packets_of ps) (packet_before p.kind p.octets [])
    ∙ ap (λ cs. checks_of l a m ps ++ cs) (one_piece l a m p.kind p.octets)
