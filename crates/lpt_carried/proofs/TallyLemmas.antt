-- What is noted of pieces, one behind the other.
use Rattle.std.proofs.Common.{◌≡◌, ◌∙◌, ap, sym, refl, List, [], ◌∷◌, ◌++◌, length}
use Rattle.lpt_stream.specs.Pieces.{Piece}
use Rattle.lpt_carried.specs.declared.wanted.Wanted.{Wanted}
use Rattle.lpt_carried.specs.declared.skips.Skips.{Skips}
use Rattle.lpt_carried.specs.declared.why.Why.{Why}
use Rattle.lpt_carried.specs.declared.why.Why.TheVariants.{Taken}
use Rattle.lpt_carried.specs.Skipping.{why}
use Rattle.lpt_carried.specs.Tallies.{piece_noted, noted_all, with_octets, with_why}

-- of more pieces, behind others
pub noted-append : (r : Wanted) (s : Skips) (ps qs : List Piece)
    → noted_all r s (ps ++ qs) ≡ noted_all r (noted_all r s ps) qs
noted-append r s [] qs = refl
noted-append r s (p ∷ ps) qs = noted-append r (piece_noted r s p) ps qs

-- of one that is wanted no more than its octets
pub taken-noted : (w : Wanted) (was now : Skips) (p : Piece)
    → why w p ≡ Taken
    → now ≡ with_octets was (length p.octets)
    → now ≡ piece_noted w was p
taken-noted w was now p taken is =
    is ∙ ap (λ (y : Why). with_octets (with_why was y) (length p.octets)) (sym taken)
