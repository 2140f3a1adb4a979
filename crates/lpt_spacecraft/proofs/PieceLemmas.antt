-- Stretches of a stream as its pieces.
use Rattle.std.proofs.Common.{◌≡◌, sym, subst, refl, ℕ, Bool, List, [], ◌∷◌, ◌++◌, length, drop}
use Rattle.lpt_stream.specs.Pieces.{LeadsBy, Piece, keeps_step}
use Rattle.lpt_stream.specs.declared.cut.Cut.{Cut}
use Rattle.lpt_stream.specs.declared.cut.Cut.TheVariants.{Resumed}
use Rattle.lpt_spacecraft.specs.Stretches.{Stretch, AreAllPieces, AreStretches}
use Rattle.lpt_spacecraft.specs.declared.passing.Passing.{Passing}

leads-append : (cut : Cut) (s t u : Bool) (b c d : List ℕ) (ps qs : List Piece)
    → LeadsBy cut s b ps t c
    → LeadsBy cut t c qs u d
    → LeadsBy cut s b (ps ++ qs) u d
leads-append cut s t u b c d [] qs h k =
    subst (λ x. LeadsBy cut s x qs u d) (sym h.1) (subst (λ y. LeadsBy cut y c qs u d) (sym h.0) k)
leads-append cut s t u b c d (p ∷ ps) qs h k = (
  h.0,
  h.1,
  leads-append cut (keeps_step p.kind) t u (drop (length p.octets) b) c d ps qs h.2 k,
)

-- stretches are pieces, one behind the other
pub are-pieces : (p : Passing) (s t : Bool) (b rest : List ℕ) (ss : List Stretch)
    → AreStretches p s b ss t rest
    → (ps : List Piece) × AreAllPieces p ss ps × LeadsBy (Resumed p.longest) s b ps t rest
are-pieces p s t b rest [] h = ([], refl, h)
are-pieces p s t b rest (x ∷ ss) h =
    let k = are-pieces p h.0 t h.1 rest ss h.3 in (
      h.2.pieces ++ k.0,
      (h.2.pieces, k.0, h.0, h.1, refl, h.2.are, k.1),
      leads-append (Resumed p.longest) s h.0 t b h.1 rest h.2.pieces k.0 h.2.leads k.2,
    )
