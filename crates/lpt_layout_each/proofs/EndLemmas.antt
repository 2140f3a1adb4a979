-- What is known of a stream, in other words.
use Rattle.std.proofs.Common.{ℕ, List, Option, Result, Ok, Err}
use Rattle.std.specs.Prelude.{IfErr, IfOk}
use Rattle.lpt_layout_join.specs.Writes.{ReadsCut}
use Rattle.lpt_stream.specs.declared.cut.Cut.{Cut}
use Rattle.lpt_stream.specs.Pieces.{Piece}

-- of one that was read to its end
pub ok-so : {A E : Type 0} (cut : Cut) (a b : Option (List ℕ)) (P Q : List Piece → Type 0)
    (R : A → List Piece → Type 0) (r : Result A E)
    → ((ps : List Piece) → P ps → Q ps)
    → IfOk r (λ x. ReadsCut cut a b (λ ps. P ps × R x ps))
    → IfOk r (λ x. ReadsCut cut a b (λ ps. Q ps × R x ps))
ok-so cut a b P Q R (Ok x) f h = (h.0, h.1, h.2, h.3, h.4, (f h.1 h.5.0, h.5.1))
ok-so cut a b P Q R (Err e) f h = tt

-- of one that ended by a fault
pub err-so : {A E : Type 0} (P Q : Type 0) (r : Result A E)
    → (P → Q)
    → IfErr r (λ _. P)
    → IfErr r (λ _. Q)
err-so P Q (Ok x) f h = tt
err-so P Q (Err e) f h = f h
