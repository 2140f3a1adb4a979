-- What is told of all names, as far as it is told of one.
use Rattle.std.proofs.Common.{◌≡◌, ◌∙◌, ap, sym, refl, ℕ, Bool, true, false, if◌then◌else◌, List, [], ◌∷◌, ◌++◌, Option, Some, None, Ok, Err, Result}
use Rattle.std.proofs.lemmas.List.Concat.{flat_map-append}
use Rattle.lpt_part.specs.Parts.{Piece}
use Rattle.lpt_carried.specs.declared.name.Name.{Name}
use Rattle.lpt_carried.specs.declared.reading.Reading.{Reading}
use Rattle.lpt_carried.specs.declared.skip.Skip.{Skip}
use Rattle.lpt_carried.specs.Carried.{Named, part_carried, name_of, part_of, same_name}
use Rattle.lpt_carried.proofs.NameLemmas.{same_name-refl, same_name-true}
use Rattle.lpt_layout_join.specs.Counts.{nothing_counted}
use Rattle.lpt_layout_each.specs.Eaches.{counts_of, course_held, news_listed, missing_at, news_from, nothing, step_of}
use Rattle.lpt_layout_each.specs.Laws.{news_of_name}
use Rattle.lpt_layout_each.specs.News.{Event, News}
use Rattle.lpt_layout_each.specs.Streams.{events_from, of, events_told, told_by}
use Rattle.lpt_layout_each.proofs.HeldsLemmas.{counted-next, held_from-next}

-- of one name
mine : (m n : Name) (ws : List News) → same_name m n ≡ true → news_of_name n (of m ws) ≡ ws
mine m n [] h = refl
mine m n (w ∷ ws) h =
    ap (λ (b : Bool). (if b then w ∷ [] else []) ++ news_of_name n (of m ws)) h
    ∙ ap (λ vs. w ∷ vs) (mine m n ws h)

-- of another
others : (m n : Name) (ws : List News) → same_name m n ≡ false → news_of_name n (of m ws) ≡ []
others m n [] h = refl
others m n (w ∷ ws) h =
    ap (λ (b : Bool). (if b then w ∷ [] else []) ++ news_of_name n (of m ws)) h ∙ others m n ws h

module _ (r : Reading) (any : Bool) (n : Name) where
  -- what a packet that carries this tells of the name
  abbrev tells : List (List ℕ) → List ℕ → Option Piece → List News
  tells before b o =
      news_listed
      (step_of r any (missing_at r (counts_of r before) b) (course_held r any n before) o).1

  one_packet : (before : List (List ℕ)) (b : List ℕ) (v : Result Named Skip)
      → part_carried r b ≡ v
      → news_of_name n (told_by r any before b v) ≡ tells before b (part_of n v)
  one_packet before b (Err e) is = refl
  one_packet before b (Ok c) is = go (same_name (name_of c) n) refl where
    go : (same : Bool)
        → same_name (name_of c) n ≡ same
        → news_of_name n (events_told r any (name_of c) before b)
        ≡ tells before b (part_of n (Ok c))
    go true its =
        ap (λ (m : Name). news_of_name n (events_told r any m before b))
        (same_name-true (name_of c) n its)
        ∙ mine n n (tells before b (part_of n (part_carried r b))) (same_name-refl n)
        ∙ ap (λ (v : Result Named Skip). tells before b (part_of n v)) is
    go false its =
        others (name_of c) n _ its
        ∙ sym (ap (λ (t : Bool). tells before b (if t then Some c.piece else None)) its)

  restricted : (before bs : List (List ℕ))
      → news_of_name n (events_from r any before bs)
      ≡ news_from r any n (counts_of r before) (course_held r any n before) bs
  restricted before [] = refl
  restricted before (b ∷ bs) =
      let here = one_packet before b (part_carried r b) refl in
      let rest = restricted (before ++ b ∷ []) bs in
      flat_map-append (λ (e : Event). if same_name e.0 n then e.1 ∷ [] else [])
      (told_by r any before b (part_carried r b)) (events_from r any (before ++ b ∷ []) bs)
      ∙ (λ i. here i ++ rest i)
      ∙ (λ i. tells before b (part_of n (part_carried r b))
      ++ news_from r any n (counted-next r nothing_counted before b i)
      (held_from-next r any n nothing_counted nothing before b i) bs)

  pub one_name : (bs : List (List ℕ))
      → news_of_name n (events_from r any [] bs) ≡ news_from r any n nothing_counted nothing bs
  one_name bs = restricted [] bs
