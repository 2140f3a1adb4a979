-- Lists of which the first elements were changed, one after the other; and so files of memories.
use Rattle.std.proofs.Common.{◌≡◌, ◌∙◌, ap, sym, refl, ℕ, zero, suc, ◌+◌, ◌<◌, ◌≤◌, List, [], ◌∷◌, length, map, Option, arith}
use Rattle.std.proofs.Math.ListN.{get_or, get_or-map, set}
use Rattle.std.proofs.lemmas.List.{length-map, map-set}
use Rattle.lpt_memory.specs.Memories.{Contents}
use Rattle.lpt_spacecraft.specs.Files.{contents_of, saved_by, saved_in}
use Rattle.lpt_spacecraft.specs.declared.told.Told.{Told}

-- the first n elements changed so
abbrev pub front : {A : Type 0} (f : A → A) → ℕ → List A → List A
front f zero ws = ws
front f (suc n) [] = []
front f (suc n) (w ∷ ws) = f w ∷ front f n ws

module _ {B : Type 0} (f : B → B) where
  -- the next is changed in its place
  front_next : (ws : List B) (i : ℕ) (e : B)
      → i < length ws
      → set (front f i ws) i (f (get_or (front f i ws) i e)) ≡ front f (suc i) ws
  front_next [] i e h = absurd (omega (arith, h))
  front_next (w ∷ ws) zero e h = refl
  front_next (w ∷ ws) (suc i) e h =
      ap (λ (xs : List B). f w ∷ xs) (front_next ws i e (omega (arith, h)))

  -- all are changed
  front_all : (ws : List B) (i : ℕ) → length ws ≤ i → front f i ws ≡ map f ws
  front_all [] zero h = refl
  front_all [] (suc i) h = refl
  front_all (w ∷ ws) zero h = absurd (omega (arith, h))
  front_all (w ∷ ws) (suc i) h =
      ap (λ (xs : List B). f w ∷ xs) (front_all ws i (omega (arith, h)))

  -- one more is changed, as it is seen
  front_put : {A : Type 0} (v : A → B) (xs : List A) (ws : List B) (i : ℕ) (d y : A)
      → map v xs ≡ front f i ws
      → i < length ws
      → v y ≡ f (v (get_or xs i d))
      → map v (set xs i y) ≡ front f (i + 1) ws
  front_put v xs ws i d y is h changed =
      let at : v (get_or xs i d) ≡ get_or (front f i ws) i (v d) =
      sym (get_or-map v xs i d) ∙ ap (λ (ys : List B). get_or ys i (v d)) is in
      let further : suc i ≡ i + 1 = omega arith in
      map-set v xs i y
      ∙ (λ j. set (is j) i ((changed ∙ ap f at) j))
      ∙ front_next ws i (v d) h
      ∙ ap (λ (n : ℕ). front f n ws) further

-- ---- files

module _ {F : Type 0} (content : F → Option (List ℕ)) (told : List Told) (ms : Contents)
    (files old : List (ℕ × F)) (i : ℕ)
    (is : contents_of content files ≡ front (saved_by told ms) i (contents_of content old)) where
  -- the next file has what it is to have
  pub saved_next : (d : ℕ × F) (new : F)
      → i < length old
      → content new ≡ saved_in told ms (get_or files i d).0 (content (get_or files i d).1)
      → contents_of content (set files i ((get_or files i d).0, new))
      ≡ front (saved_by told ms) (i + 1) (contents_of content old)
  saved_next d new h saved =
      let v : ℕ × F → ℕ × Option (List ℕ) = λ f. (f.0, content f.1) in
      let within : i < length (map v old) = omega (arith, h, length-map old v) in
      front_put (saved_by told ms) v files (map v old) i d ((get_or files i d).0, new) is within
      (λ j. ((get_or files i d).0, saved j))

  -- all have
  pub saved_all : length old ≤ i
      → contents_of content files ≡ map (saved_by told ms) (contents_of content old)
  saved_all h =
      let v : ℕ × F → ℕ × Option (List ℕ) = λ f. (f.0, content f.1) in
      is
      ∙ front_all (saved_by told ms) (map v old) i (omega (arith, h, length-map old v))
