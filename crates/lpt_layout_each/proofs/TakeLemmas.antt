-- What is kept once news were taken.
use Rattle.std.proofs.Common.{◌≡◌, ◌∙◌, ap, sym, subst, refl, ℕ, List, [], ◌∷◌, ◌++◌, Option, Some, None, append_assoc}
use Rattle.std.specs.Prelude.{IfSome, decimal}
use Rattle.lpt_carried.specs.declared.name.Name.{Name}
use Rattle.lpt_packet.specs.declared.direction.Direction.{Direction}
use Rattle.lpt_packet.specs.Directions.{direction_word}
use Rattle.lpt_layout_each.specs.News.{Event, News}
use Rattle.lpt_layout_each.specs.Files.{NewFile, count_for, files_at, files_of, front_of, path_of, with_event, with_files}
use Rattle.lpt_layout_each.specs.Filing.{path_text}
use Rattle.lpt_layout_each.proofs.FileLemmas.{files-next}

-- these files are those of what was heard, where it is known
abbrev pub Filed : (front : List ℕ) → Option (List Event) → Option (List NewFile) → Type 0
Filed front heard files = IfSome heard (λ es. files ≡ Some (files_of front es))

module _ (front : List ℕ) (name : Name) (w : News) where
  -- they still are
  pub filed-next : (path : List ℕ) (before : ℕ) (heard hears : Option (List Event))
      (files made : Option (List NewFile))
      → hears ≡ with_event (name, w) heard
      → made ≡ with_files (files_at path w) files
      → path ≡ path_of front name before
      → IfSome heard (λ es. before ≡ count_for name es)
      → Filed front heard files
      → Filed front hears made
  filed-next path before None hears files made h m p is filed =
      subst (λ (o : Option (List Event)). Filed front o made) (sym h) tt
  filed-next path before (Some es) hears files made h m p is filed =
      subst (λ (o : Option (List Event)). Filed front o made) (sym h)
      (m ∙ ap (with_files (files_at path w)) filed
      ∙ ap (λ (q : List ℕ). Some (files_of front es ++ files_at q w))
      (p ∙ ap (path_of front name) is)
      ∙ ap Some (sym (files-next front es (name, w))))

-- a path begins with the folder and the direction
pub path-front : (folder : List ℕ) (d : Direction) (n : Name) (before : ℕ)
    → path_text folder d n before ≡ path_of (front_of folder d) n before
path-front folder d n before =
    sym (append_assoc folder (47 ∷ direction_word d)
    (45 ∷ (decimal n.user ++ (45 ∷ (decimal n.id ++ (46 ∷ decimal before))))))
