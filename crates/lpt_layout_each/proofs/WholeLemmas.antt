-- Which files were made, where what was heard is known.
use Rattle.std.proofs.Common.{inl, inr, ◌∙◌, ap, subst, ℕ, Bool, List, [], ◌∷◌, ◌++◌, Option, Some, None}
use Rattle.lpt_carried.specs.declared.reading.Reading.{Reading}
use Rattle.lpt_layout_each.specs.News.{Event, Hears, HearsPart, News, Given, Dropped, Unfit, Overtaken}
use Rattle.lpt_layout_each.specs.Streams.{Tells, TellsPart, events}
use Rattle.lpt_layout_each.specs.Files.{Files, FilesPart, IsNew, NewFile, files_from, files_of}
use Rattle.lpt_layout_each.specs.Filing.{with_mark}
use Rattle.lpt_layout_each.proofs.FileLemmas.{files-append, files-left}
use Rattle.lpt_layout_each.proofs.TakeLemmas.{Filed}

-- ---- the mark

abbrev octets_in : News → List ℕ
octets_in (Given m) = m
octets_in (Dropped parts last) = []
octets_in (Unfit e) = []
octets_in (Overtaken parts last m) = []

abbrev front_in : List Event → List ℕ
front_in [] = []
front_in (e ∷ es) = octets_in e.1

abbrev behind : List Event → List Event
behind [] = []
behind (e ∷ es) = es

module _ (front0 front : List ℕ) (files now : Option (List NewFile)) where
  -- just these files
  pub files-are : (first heard : Option (List Event)) (es : List Event)
      → IsNew first files
      → Filed front heard now
      → Hears (with_mark front0 first) (with_mark front heard) es
      → Files first now (files_of front0 es)
  files-are None heard es new filed h = tt
  files-are (Some xs) None es new filed h = absurd h
  files-are (Some xs) (Some ys) es new filed h =
      filed
      ∙ (λ i. Some (files_of (ap front_in h i) (ap behind h i)))
      ∙ ap (λ (zs : List Event). Some (files_of front0 (zs ++ es))) new.0

  -- those of a front part
  pub files-part : (first heard : Option (List Event)) (es : List Event)
      → IsNew first files
      → Filed front heard now
      → HearsPart (with_mark front0 first) (with_mark front heard) es
      → FilesPart first now (files_of front0 es)
  files-part None heard es new filed h = tt
  files-part (Some xs) None es new filed h = absurd h
  files-part (Some xs) (Some ys) es new filed h = (
    files_of front0 h.0,
    files_from front0 h.0 h.1,
    ap (files_of front0) h.2 ∙ files-append front0 [] h.0 h.1,
    files-are (Some xs) (Some ys) h.0 new filed h.3,
  )

  module _ (r : Reading) (any : Bool) (bs : List (List ℕ)) where
    -- of what packets tell up to the end of their stream
    pub files-all : (first heard : Option (List Event))
        → IsNew first files
        → Filed front heard now
        → Tells r any bs (with_mark front0 first) (with_mark front heard)
        → Files first now (files_of front0 (events r any bs))
    files-all first heard new filed h =
        subst (λ (fs : List NewFile). Files first now fs)
        (files-left front0 r any bs (events r any bs) h.0 h.1)
        (files-are first heard (events r any bs ++ h.0) new filed h.2)

    -- or of a front part
    pub files-left-part : (first heard : Option (List Event))
        → IsNew first files
        → Filed front heard now
        → TellsPart r any bs (with_mark front0 first) (with_mark front heard)
        → FilesPart first now (files_of front0 (events r any bs))
    files-left-part first heard new filed (inl h) =
        files-part first heard (events r any bs) new filed h
    files-left-part first heard new filed (inr h) =
        subst (λ (fs : List NewFile). FilesPart first now fs)
        (files-left front0 r any bs (events r any bs) h.0 h.1)
        (files-part first heard (events r any bs ++ h.0) new filed h.2)
