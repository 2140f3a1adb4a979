-- What is kept, as the code has it.
use Rattle.std.specs.Prelude.{◌≡◌, ℕ, ◌+◌, ◌==◌, ◌&&◌, nat_le, Bool, true, false, not, if◌then◌else◌, List, Option, Some, None}
use Rattle.std.specs.Option.{option_map}
use Rattle.std.specs.BTreeMap.{BTreeMap, get, IsOrdered}
use Rattle.lpt_part.specs.Parts.{Piece}
use Rattle.lpt_layout_join.specs.declared.came.CameAs.{CameAs}
use Rattle.lpt_layout_join.specs.declared.order.Order.{Order}
use Rattle.lpt_carried.specs.declared.name.Name.{Name}
use Rattle.lpt_carried.specs.declared.reading.Reading.{Reading}
use Rattle.lpt_layout_join.specs.Came.{Came, nothing_came}
use Rattle.lpt_layout_join.specs.CameInside.{IsBlank, Shows}
use Rattle.lpt_layout_join.specs.CountsInside.{counts_shown}
use Rattle.lpt_layout_each.specs.declared.course.CourseAs.{CourseAs}
use Rattle.lpt_layout_each.specs.declared.held.HeldAs.{HeldAs}
use Rattle.lpt_layout_each.specs.declared.helds.HeldsAs.{HeldsAs}
use Rattle.lpt_layout_each.specs.declared.kept.Inside.{Inside}
use Rattle.lpt_layout_each.specs.declared.kept.KeptAs.{KeptAs}
use Rattle.lpt_layout_each.specs.declared.news.NewsAs.{NewsAs}
use Rattle.lpt_layout_each.specs.declared.run.RunAs.{RunAs}
use Rattle.lpt_layout_each.specs.declared.run.RunTurnAs.{RunTurnAs}
use Rattle.lpt_layout_each.specs.declared.run.RunTurnAs.TheVariants as ran
use Rattle.lpt_layout_each.specs.declared.turn.Turn as code
use Rattle.lpt_layout_each.specs.declared.turn.Turn.TheVariants as turned
use Rattle.lpt_layout_each.specs.Eaches.{Course, Ends, Goes, Held, Run, RunTurn, Turn, Waits, GivesUp, Gives, alone, held_begun, counts_of, course_held, is_old, more, no_run, nothing, seed}
use Rattle.lpt_layout_join.specs.Names.{name_cmp}
use Rattle.lpt_layout_each.specs.Kepts.{course_of}
use Rattle.lpt_layout_each.specs.News.{News, Unfit, parts_dropped}
use Rattle.lpt_layout_each.specs.Told.{news_of}

-- what is held is what came, if something is
abbrev pub ShowsSome : Option Came → Option CameAs → Type 0
ShowsSome None None = Unit {0}
ShowsSome None (Some s) = ⊥
ShowsSome (Some c) None = ⊥
ShowsSome (Some c) (Some s) = Shows c s

-- a part made this turn of others
abbrev pub IsTurn : (again : Bool) → Came → Piece → code.Turn → Turn → Type 0
IsTurn again c q turned.Waits now = now ≡ Waits (more c q)
IsTurn again c q turned.Broken now = now ≡ GivesUp (parts_dropped (more c q)) (alone q)
IsTurn again c q (turned.Unfit e) now = now ≡ GivesUp (Unfit e) (seed again q)
IsTurn again c q (turned.Gives m) now = now ≡ Gives (more c q) m

-- the same of all parts, if they are kept
abbrev pub IsTurnOfAll : (again : Bool) → Option Came → Piece → Option code.Turn → Option Turn
    → Type 0
IsTurnOfAll again None q None None = Unit {0}
IsTurnOfAll again (Some c) q (Some t) (Some now) = IsTurn again c q t now
IsTurnOfAll _ _ _ _ _ = ⊥

-- this is kept of a name
pub record Holds (h : Held) (g : HeldAs) : Type 0 where
  pub last : ShowsSome h.last g.last
  pub all : ShowsSome h.all g.all
  pub new : Shows h.new g.rest

-- and this is told
pub record Takes (g : HeldAs × Option NewsAs) (h : Held × Option News) : Type 0 where
  pub holds : Holds h.0 g.0
  pub tells : option_map news_of g.1 ≡ h.1

-- these parts came in their order
pub record IsRun (r : Run) (g : RunAs) : Type 0 where
  pub order : g.order ≡ r.order
  pub came : Shows r.came g.came

-- a part made this of them, which is kept
abbrev pub IsRunTurn : RunAs → RunTurnAs → RunTurn → Type 0
IsRunTurn g ran.Goes now = (r : Run) × IsRun r g × (now ≡ Goes r)
IsRunTurn g (ran.Ends m sure) now = (c : Came) × Shows c g.came × (now ≡ Ends c m sure)

-- what is kept of a name, of which behind this message these parts came alone: in this order, and
-- nothing else
abbrev pub course_alone : (last : Option Came) → Order → Came → Course
course_alone l o c = record {
  held = held_begun l c;
  run = record { order = o; came = c };
  stale = false;
  gave = false;
}

-- if they were given up
abbrev pub broken_course : Held → Course
broken_course h = record { held = h; run = no_run; stale = false; gave = false }

-- All parts, and those that came in their order, are kept too; or those that are held are all these,
-- and are kept once.
abbrev pub AreKept : (alone : Bool) → Course → CourseAs → Type 0
AreKept false c g = ShowsSome c.held.all g.held.all × IsRun c.run g.run
AreKept true c g =
    (c ≡ course_alone c.held.last g.run.order c.held.new)
    × (g.run.order.count ≡ 0 → c.held.new ≡ nothing_came)

-- whether a part of this number is the next of those that came alone, or one of these again
abbrev pub goes_on : Order → (number : ℕ) → Bool
goes_on o n = if n == 1 then o.count == 0 else nat_le n (o.count + 1)

-- and none of the last message
abbrev pub goes_on_alone : CourseAs → (last : Option Came) → Piece → Bool
goes_on_alone g l q = g.alone && goes_on g.run.order q.number && not (is_old l q)

-- this is kept, by its order too
pub record Follows (c : Course) (g : CourseAs) : Type 0 where
  pub last : ShowsSome c.held.last g.held.last
  pub new : Shows c.held.new g.held.rest
  pub stale : g.stale ≡ c.stale
  pub gave : g.gave ≡ c.gave
  pub kept : AreKept g.alone c g

-- and this is told
pub record Steps (g : CourseAs × Option NewsAs) (c : Course × Option News) : Type 0 where
  pub follows : Follows c.0 g.0
  pub tells : option_map news_of g.1 ≡ c.1

-- this is kept while other names' packets come, whatever holds no parts in place of a run of none
pub record Keeps (c : Course) (k : Inside) : Type 0 where
  pub new : Shows c.held.new k.rest
  pub follows : (s : CameAs) → IsBlank s → Follows c (course_of k s)

abbrev pub IsKept : Course → KeptAs → Type 0
IsKept c g = Keeps c g.inside.value

-- and this is told
pub record StepsKept (g : KeptAs × Option NewsAs) (c : Course × Option News) : Type 0 where
  pub keeps : IsKept c.0 g.0
  pub tells : option_map news_of g.1 ≡ c.1

-- this is kept of the name, or nothing if nothing came
abbrev pub IsHeld : Course → Option KeptAs → Type 0
IsHeld c None = c ≡ nothing
IsHeld c (Some g) = IsKept c g

-- of a name this is kept then, and this is told
abbrev pub StepsAt : Name → BTreeMap Name KeptAs → Option NewsAs → Course × Option News → Type 0
StepsAt n m news c = (k : KeptAs) × (get name_cmp m n ≡ Some k) × StepsKept (k, news) c

-- of each name this is kept behind the packets, and their counts
pub record HoldsEach (r : Reading) (any : Bool) (bs : List (List ℕ)) (g : HeldsAs) : Type 0 where
  pub each : (n : Name) → IsHeld (course_held r any n bs) (get name_cmp g.kept n)
  pub in_order : IsOrdered name_cmp g.kept
  pub counts : counts_shown g.counts ≡ counts_of r bs
