-- The news of all names, as the packets of a stream come.
use Rattle.std.specs.Prelude.{◌≡◌, ◌≢◌, ◌⊎◌, ℕ, Bool, true, List, [], ◌∷◌, ◌++◌, map, None, Option, Result, Ok, Err}
use Rattle.std.specs.List.{flat_map, list_any}
use Rattle.std.specs.List.Sorted.{IsStrictlySortedBy}
use Rattle.lpt_carried.specs.declared.name.Name.{Name}
use Rattle.lpt_carried.specs.declared.reading.Reading.{Reading}
use Rattle.lpt_carried.specs.declared.skip.Skip.{Skip}
use Rattle.lpt_carried.specs.declared.wanted.Wanted.{Wanted}
use Rattle.lpt_carried.specs.Carried.{Named, part_carried, name_of, part_of, same_name}
use Rattle.lpt_layout_join.specs.Came.{Came, count_in, highest}
use Rattle.lpt_layout_each.specs.declared.waiting.WaitingAs.{WaitingAs}
use Rattle.lpt_layout_each.specs.Eaches.{counts_of, course_held, news_left, news_listed, missing_at, step_of}
use Rattle.lpt_layout_join.specs.Names.{name_cmp}
use Rattle.lpt_layout_each.specs.News.{Event, Hears, HearsPart, News}

-- news of one name
abbrev pub of : Name → List News → List Event
of n ws = map (λ w. (n, w)) ws

-- what a packet tells of a name, behind others
abbrev pub events_told : Reading → (any : Bool) → Name → (before : List (List ℕ)) → List ℕ
    → List Event
events_told r any n before b =
    of n (news_listed
    (step_of r any (missing_at r (counts_of r before) b) (course_held r any n before)
    (part_of n (part_carried r b))).1)

-- what it tells of the name of its part, if it carries this
abbrev pub told_by :
    Reading → (any : Bool) → (before : List (List ℕ)) → List ℕ → Result Named Skip → List Event
told_by r any before b (Ok c) = events_told r any (name_of c) before b
told_by r any before b (Err e) = []

-- what packets tell behind others, in their order
abbrev pub events_from : Reading → (any : Bool) → (before bs : List (List ℕ)) → List Event
events_from r any before [] = []
events_from r any before (b ∷ bs) =
    told_by r any before b (part_carried r b) ++ events_from r any (before ++ b ∷ []) bs

-- what packets tell
abbrev pub events : Reading → (any : Bool) → List (List ℕ) → List Event
events r any bs = events_from r any [] bs

-- what is left of a name behind packets
abbrev pub left_of : Reading → (any : Bool) → List (List ℕ) → Name → List Event
left_of r any bs n = of n (news_left (course_held r any n bs))

-- of how many numbers these are parts, and the greatest of these, 0 if there are none
abbrev pub waiting : Came → WaitingAs
waiting c = record { count = count_in c.parts; highest = highest c.parts }

-- the same of what is left of a name behind packets
abbrev pub waiting_of : Reading → (any : Bool) → List (List ℕ) → Name → WaitingAs
waiting_of r any bs n = waiting (course_held r any n bs).held.new

-- this is what is left of each name, in the order of names
pub record Leaves (r : Reading) (any : Bool) (bs : List (List ℕ))
    (es : List Event) : Type 0 where
  pub names : List Name
  pub in_order : IsStrictlySortedBy name_cmp names
  pub all : (n : Name) → left_of r any bs n ≢ [] → list_any (same_name n) names ≡ true
  pub are : es ≡ flat_map (left_of r any bs) names

-- what packets tell up to the end of their stream was told
abbrev pub Tells :
    Reading → (any : Bool) → List (List ℕ) → (heard hears : Option (List Event)) → Type 0
Tells r any bs heard hears =
    (es : List Event) × Leaves r any bs es × Hears heard hears (events r any bs ++ es)

-- a front part of what packets tell was told; or all of it, and a front part of what is left
abbrev pub TellsPart :
    Reading → (any : Bool) → List (List ℕ) → (heard hears : Option (List Event)) → Type 0
TellsPart r any bs heard hears =
    HearsPart heard hears (events r any bs)
    ⊎ ((es : List Event) × Leaves r any bs es × HearsPart heard hears (events r any bs ++ es))

-- parts of any name are wanted
abbrev pub any_of : Reading → Wanted
any_of r = record { reading = r; name = None }
