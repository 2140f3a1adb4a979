-- How a ledger keeps the marks: in pages of 64 names, of which each has a bit in two words.
use Rattle.std.specs.Prelude.{◌≡◌, ◌≢◌, ℕ, zero, suc, ◌+◌, ◌*◌, ◌/◌, ◌%◌, ◌<◌, ◌==◌, Bool, true, false, cond, List, [], ◌∷◌, Option, Some, None, is_some, unwrap_or}
use Rattle.std.specs.BTreeMap.{is_at}
use Rattle.std.specs.FinMap as map
use Rattle.std.specs.Int.{bit_at}
use Rattle.std.specs.Map.{lookup}
use Rattle.lpt_packet.specs.Names.{Name, name_cmp, named_by}
use Rattle.lpt_ledger.specs.declared.page.Page.{Page}
use Rattle.lpt_ledger.specs.declared.state.State.{State}
use Rattle.lpt_ledger.specs.declared.state.State.TheVariants.{Free, Open, Closed}
use Rattle.lpt_ledger.specs.Marks.{Mark, Opened, Shut, Marks}

-- the mark of a name in this state, or none
abbrev pub mark_of : State → Option Mark
mark_of Free = None
mark_of Open = Some Opened
mark_of Closed = Some Shut

-- the marks once a name has this state
abbrev pub with_state : Marks → Name → State → Marks
with_state m name Free = map.remove m name
with_state m name Open = map.insert m name Opened
with_state m name Closed = map.insert m name Shut

-- ---- pages

-- the mark of a name that is taken, or isn't, and open, or not
abbrev pub mark_by_bits : (taken opened : Bool) → Option Mark
mark_by_bits false opened = None
mark_by_bits true true = Some Opened
mark_by_bits true false = Some Shut

-- the mark of a page's name at a place
abbrev pub page_mark : Page → ℕ → Option Mark
page_mark g b = mark_by_bits (bit_at g.taken b == 1) (bit_at g.opened b == 1)

-- the same of a page, or of none, which has no marks
abbrev pub mark_on : Option Page → ℕ → Option Mark
mark_on None b = None
mark_on (Some g) b = page_mark g b

-- a page of which no name is open any more
abbrev pub closed_page : Page → Page
closed_page g = record { taken = g.taken; opened = 0 }

-- the page that begins with a name
abbrev pub page_in : List (Name × Page) → Name → Option Page
page_in es first = lookup (is_at (name_cmp first)) es

-- the first name of a name's page
abbrev pub page_first : Name → Name
page_first name = named_by name.source (name.id / 64 * 64)

-- the mark of a name
abbrev pub mark_at : List (Name × Page) → Name → Option Mark
mark_at es name = mark_on (page_in es (page_first name)) (name.id % 64)

-- pages in which one stands in place of another, that gives the name at a place this state, and has
-- the marks of the other names; if none of the other one's names was free, none is
pub record IsChanged (es fs : List (Name × Page)) (first : Name) (place : ℕ) (s : State) : Type 0
  where
    pub page : Page
    pub stands : (q : Name) → page_in fs q
        ≡ cond (is_at (name_cmp first) q) (Some page) (page_in es q)
    pub this : page_mark page place ≡ mark_of s
    pub others : (b : ℕ) → b < 64 → b ≢ place → page_mark page b ≡ mark_on (page_in es first) b
    pub full : ((b : ℕ) → b < 64 → is_some (mark_on (page_in es first) b) ≡ true)
        → (b : ℕ) → b < 64 → is_some (page_mark page b) ≡ true

-- ---- what they are seen as

-- the n names from place k of a page on, before others
unfoldable pub names_from : (n k : ℕ) → (first : Name) → List Name → List Name
names_from zero k first rest = rest
names_from (suc n) k first rest =
    named_by first.source (first.id + k) ∷ names_from n (suc k) first rest

-- the names of pages
abbrev pub names_on : List (Name × Page) → List Name
names_on [] = []
names_on (e ∷ es) = names_from 64 0 e.0 (names_on es)

-- marks with the one of a name, or none, before them
abbrev pub name_marked : Name → Option Mark → List (Name × Mark) → List (Name × Mark)
name_marked name None rest = rest
name_marked name (Some mark) rest = (name, mark) ∷ rest

-- the marks of these names
abbrev pub marks_over : List Name → (Name → Option Mark) → List (Name × Mark)
marks_over [] mark = []
marks_over (n ∷ ns) mark = name_marked n (mark n) (marks_over ns mark)

-- what pages are seen as
unfoldable pub marks : List (Name × Page) → Marks
marks es = map.from_entries (marks_over (names_on es) (mark_at es))

-- ---- which pages are full

-- the word of the 64 pages that begin with a name; if there is none, no bit is set
abbrev pub word_in : List (Name × ℕ) → Name → ℕ
word_in ws first = unwrap_or (lookup (is_at (name_cmp first)) ws) 0

-- the first name of the 64 pages of a name
abbrev pub word_first : Name → Name
word_first name = named_by name.source (name.id / 4096 * 4096)

-- the bit of a name's page
abbrev pub full_bit : List (Name × ℕ) → Name → ℕ
full_bit ws name = bit_at (word_in ws (word_first name)) (name.id / 64 % 64)

-- each page stands under its first name
abbrev pub ArePaged : List (Name × Page) → Type 0
ArePaged es = (q : Name) → is_some (page_in es q) ≡ true → page_first q ≡ q

-- a page has its bit set only if none of its names is free
abbrev pub Tells : List (Name × Page) → List (Name × ℕ) → Type 0
Tells es ws = (q : Name) → full_bit ws q ≡ 1 → is_some (mark_at es q) ≡ true

-- what always holds of a ledger's pages and bits
pub record IsKept (es : List (Name × Page)) (ws : List (Name × ℕ)) : Type 0 where
  pub tells : Tells es ws
  pub paged : ArePaged es
