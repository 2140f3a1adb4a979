-- What a part makes of others.
use Rattle.std.proofs.Common.{◌≡◌, ◌∙◌, ap, sym, ℕ, Bool, true, false, if◌then◌else◌, List, Option, Some, None}
use Rattle.std.specs.Prelude.{is_some}
use Rattle.lpt_part.specs.Parts.{Piece}
use Rattle.lpt_layout_join.specs.declared.ending.MisfitAs.{MisfitAs}
use Rattle.lpt_carried.specs.declared.reading.Reading.{Reading}
use Rattle.lpt_layout_join.specs.Came.{Came, message_of}
use Rattle.lpt_layout_join.specs.Writes.{unfit}
use Rattle.lpt_layout_each.specs.Eaches.{Waits, GivesUp, Gives, alone, more, seed, turn, turn_fit, turn_joined}
use Rattle.lpt_layout_each.specs.News.{Unfit, parts_dropped}

module _ (r : Reading) (any again : Bool) (c : Came) (q : Piece) where
  -- it contradicts them
  pub turn-broken : true ≡ is_some (more c q).against
      → turn r any again c q ≡ GivesUp (parts_dropped (more c q)) (alone q)
  unfolding turn
  turn-broken h =
      ap (λ (b : Bool). if b then GivesUp (parts_dropped (more c q)) (alone q)
      else turn_joined r any again q (more c q) (message_of (more c q).parts)) (sym h)

  whole : (o : Option (List ℕ))
      → false ≡ is_some (more c q).against
      → o ≡ message_of (more c q).parts
      → turn_joined r any again q (more c q) o ≡ turn r any again c q
  unfolding turn
  whole o h is =
      ap (turn_joined r any again q (more c q)) is
      ∙ ap (λ (b : Bool). if b then GivesUp (parts_dropped (more c q)) (alone q)
      else turn_joined r any again q (more c q) (message_of (more c q).parts)) h

  -- parts are missing
  pub turn-waits : false ≡ is_some (more c q).against
      → None ≡ message_of (more c q).parts
      → Waits (more c q) ≡ turn r any again c q
  turn-waits h is = whole None h is

  -- they are joined
  pub turn-gives : (m : List ℕ)
      → false ≡ is_some (more c q).against
      → Some m ≡ message_of (more c q).parts
      → None ≡ unfit r any false m
      → Gives (more c q) m ≡ turn r any again c q
  turn-gives m h is fit = ap (turn_fit again q (more c q) m) fit ∙ whole (Some m) h is

  -- to what isn't given out
  pub turn-unfit : (m : List ℕ) (e : MisfitAs)
      → false ≡ is_some (more c q).against
      → Some m ≡ message_of (more c q).parts
      → Some e ≡ unfit r any false m
      → GivesUp (Unfit e) (seed again q) ≡ turn r any again c q
  turn-unfit m e h is fit = ap (turn_fit again q (more c q) m) fit ∙ whole (Some m) h is
