-- How names and runs are read off the pages, one by one.
use Rattle.std.specs.Prelude.{◌≡◌, ◌*◌, ◌/◌, ◌≤◌, ℕ, zero, suc, ◌+◌, ◌-◌, if◌then◌else◌, List, [], ◌∷◌, ◌++◌, Option, Some, None, is_some}
use Rattle.lpt_packet.specs.Names.{Name, named_by}
use Rattle.lpt_ledger.specs.declared.page.Page.{Page}
use Rattle.lpt_ledger.specs.declared.run.NameRun.{NameRun}
use Rattle.lpt_ledger.specs.LedgerInside.{page_mark}
use Rattle.lpt_ledger.specs.Runs.{runs_of_names}

-- of the n names of a page from place k on those in use
unfoldable pub page_names : (n k : ℕ) → Name → Page → List Name
page_names zero k first g = []
page_names (suc n) k first g =
    if is_some (page_mark g k) then named_by first.source (first.id + k) ∷
    page_names n (suc k) first g
    else page_names n (suc k) first g

-- the names in use of pages
unfoldable pub listing : List (Name × Page) → List Name
listing [] = []
listing (e ∷ es) = page_names 64 0 e.0 e.1 ++ listing es

-- a name is the first of a page
abbrev pub IsFirst : Name → Type 0
IsFirst n = n.id / 64 * 64 ≡ n.id

-- pages stand under their first names
abbrev pub AllFirst : List (Name × Page) → Type 0
AllFirst [] = Unit {0}
AllFirst (e ∷ es) = IsFirst e.0 × AllFirst es

-- the names in use of a page from a place on, and of the pages behind it
abbrev pub names_left : (place : ℕ) → Name → Page → List (Name × Page) → List Name
names_left place first g es = page_names (64 - place) place first g ++ listing es

-- the place is on the page, or behind its last one, and pages begin with their first names
pub record IsAtPlace (place : ℕ) (first : Name) (es : List (Name × Page)) : Type 0 where
  pub on_page : place ≤ 64
  pub begins : IsFirst first
  pub behind : AllFirst es

-- the name ahead, if one is, and those behind it, as runs
abbrev pub runs_left : Option Name → List Name → List NameRun
runs_left None ns = []
runs_left (Some n) ns = runs_of_names (n ∷ ns)
