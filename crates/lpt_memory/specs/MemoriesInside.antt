-- How shapes are compared.
use Rattle.std.specs.Prelude.{Bool, true, false, ◌&&◌, ◌==◌, [], ◌∷◌}
use Rattle.lpt_memory.specs.Meanings.{Sizes}

-- whether two lists of identifiers and sizes are the same
abbrev pub same_sizes : Sizes → Sizes → Bool
same_sizes [] [] = true
same_sizes [] (y ∷ ys) = false
same_sizes (x ∷ xs) [] = false
same_sizes (x ∷ xs) (y ∷ ys) = (x.0 == y.0) && (x.1 == y.1) && same_sizes xs ys
