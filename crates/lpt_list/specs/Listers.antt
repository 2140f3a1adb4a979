-- What lists the pieces of a stream, one after the other.
use Rattle.std.specs.Prelude.{◌≡◌, ℕ, Bool, true, List, [], ◌∷◌, None}
use Rattle.lpt_stream.specs.Pieces.{Piece, keeps_step}
use Rattle.lpt_carried.specs.Layouts.{SizesFit}
use Rattle.lpt_list.specs.declared.lister.Lister.{Lister}
use Rattle.lpt_list.specs.Lists.{listing, no_tally, stopped_behind, tally_behind}

-- whether the place behind pieces is in step
abbrev pub step_behind : Bool → List Piece → Bool
step_behind s [] = s
step_behind s (x ∷ xs) = step_behind (keeps_step x.kind) xs

-- what a lister has become by these pieces of a stream that begins at a place
pub record HasListed (from : ℕ) (first now : Lister) (pieces : List Piece) : Type 0 where
  pub sizes : SizesFit now.layouts.now
  pub form_is : now.form ≡ first.form
  pub layouts_are : now.layouts.now ≡ first.layouts.now
  pub strict_is : now.strict ≡ first.strict
  pub cut_is : now.cut ≡ first.cut
  pub step_is : now.in_step ≡ step_behind true pieces
  pub counted : now.tally ≡ tally_behind first.layouts.now no_tally pieces
  pub stopped_is : now.stopped ≡ stopped_behind first.layouts.now first.strict from None pieces

-- what it writes
abbrev pub lines : ℕ → Lister → List Piece → List ℕ
lines from first pieces = listing first.form first.layouts.now from true pieces
