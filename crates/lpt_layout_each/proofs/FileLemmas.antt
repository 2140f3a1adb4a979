-- The files of more events.
use Rattle.std.proofs.Common.{◌≡◌, ◌∙◌, ap, sym, refl, ℕ, Bool, true, false, cond, List, [], ◌∷◌, ◌++◌, append-nil, append_assoc}
use Rattle.std.specs.List.{flat_map}
use Rattle.lpt_carried.specs.declared.name.Name.{Name}
use Rattle.lpt_carried.specs.declared.reading.Reading.{Reading}
use Rattle.lpt_layout_each.specs.Eaches.{Course, course_held, is_empty, news_left}
use Rattle.lpt_layout_each.specs.News.{Event, parts_dropped}
use Rattle.lpt_layout_each.specs.Streams.{Leaves, left_of, of}
use Rattle.lpt_layout_each.specs.Files.{NewFile, count_for, files_at, files_from, files_of, path_of}

module _ (front : List ℕ) where
  -- those of both
  pub files-append : (before xs ys : List Event)
      → files_from front before (xs ++ ys)
      ≡ files_from front before xs ++ files_from front (before ++ xs) ys
  files-append before [] ys =
      ap (λ (b : List Event). files_from front b ys) (sym (append-nil before))
  files-append before (x ∷ xs) ys =
      ap (λ (fs : List NewFile). its ++ fs) (files-append (before ++ x ∷ []) xs ys)
      ∙ ap (λ (b : List Event). its ++ (files_from front (before ++ x ∷ []) xs
      ++ files_from front b ys)) (append_assoc before (x ∷ []) xs)
      ∙ sym (append_assoc its (files_from front (before ++ x ∷ []) xs)
      (files_from front (before ++ x ∷ xs) ys)) where
        its : List NewFile
        its = files_at (path_of front x.0 (count_for x.0 before)) x.1

  -- one event more
  pub files-next : (es : List Event) (e : Event)
      → files_of front (es ++ e ∷ [])
      ≡ files_of front es ++ files_at (path_of front e.0 (count_for e.0 es)) e.1
  files-next es e =
      files-append [] es (e ∷ [])
      ∙ ap (λ (fs : List NewFile). files_of front es ++ fs)
      (append-nil (files_at (path_of front e.0 (count_for e.0 es)) e.1))

  -- ---- what is left at the end makes none

  none-by : (n : Name) (c : Course) (before : List Event) (b : Bool)
      → files_from front before (of n (cond b [] (parts_dropped c.held.new ∷ []))) ≡ []
  none-by n c before true = refl
  none-by n c before false = refl

  none-left : (n : Name) (c : Course) (before : List Event)
      → files_from front before (of n (news_left c)) ≡ []
  none-left n c before = none-by n c before (is_empty c.held.new)

  none-all : (r : Reading) (any : Bool) (bs : List (List ℕ)) (names : List Name)
      (before : List Event)
      → files_from front before (flat_map (left_of r any bs) names) ≡ []
  none-all r any bs [] before = refl
  none-all r any bs (n ∷ names) before =
      files-append before (left_of r any bs n) (flat_map (left_of r any bs) names)
      ∙ (λ i. none-left n (course_held r any n bs) before i
      ++ none-all r any bs names (before ++ left_of r any bs n) i)

  pub files-left : (r : Reading) (any : Bool) (bs : List (List ℕ)) (xs es : List Event)
      → Leaves r any bs es
      → files_of front (xs ++ es) ≡ files_of front xs
  files-left r any bs xs es h =
      files-append [] xs es
      ∙ ap (λ (ys : List Event). files_of front xs ++ files_from front xs ys) h.are
      ∙ ap (λ (fs : List NewFile). files_of front xs ++ fs) (none-all r any bs h.names xs)
      ∙ append-nil (files_of front xs)
