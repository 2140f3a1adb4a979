-- The messages of one name, in the order in which they become whole, and what never does.
use Rattle.std.specs.Prelude.{ℕ, ◌+◌, ◌==◌, Bool, true, false, not, ◌&&◌, ◌||◌, nat_le, if◌then◌else◌, List, [], ◌∷◌, ◌++◌, Option, Some, None, is_none, is_some}
use Rattle.std.specs.Option.{option_map}
use Rattle.lpt_packet.specs.Numbers.{same_octets}
use Rattle.lpt_part.specs.Parts.{Piece}
use Rattle.lpt_layout_join.specs.declared.ending.MisfitAs.{MisfitAs}
use Rattle.lpt_carried.specs.declared.name.Name.{Name}
use Rattle.lpt_layout_join.specs.declared.order.Order.{Order}
use Rattle.lpt_carried.specs.declared.reading.Reading.{Reading}
use Rattle.lpt_layout_join.specs.Came.{Came, nothing_came, are_of, has_part, highest, last_of, message_of, step as came_with}
use Rattle.lpt_carried.specs.Carried.{part_carried, part_of}
use Rattle.lpt_layout_join.specs.Counts.{Counted, all_counted, packet_counted, nothing_counted}
use Rattle.lpt_layout_join.specs.Orders.{is_in_order, no_order, order_after}
use Rattle.lpt_layout_join.specs.Writes.{unfit}
use Rattle.lpt_layout_each.specs.News.{News, Given, Dropped, Unfit, Overtaken, parts_dropped, overtaken}

-- ---- what is kept of a name

-- The parts of the last whole message. All parts that came behind it, as long as these may be of
-- one message. Those of them that aren't parts of the last one: parts of it that come again late
-- don't get in.
pub record Held : Type 0 where
  pub last : Option Came
  pub all : Option Came
  pub new : Came

-- these parts came behind a message, and no others; if there is none, both would be the same,
-- and one is enough
abbrev pub held_begun : (last : Option Came) → Came → Held
held_begun last c = record { last = last; all = option_map (λ _. c) last; new = c }

-- ---- a further part

-- parts with one more, whose place isn't told
abbrev pub more : Came → Piece → Came
more c q = came_with c 0 q

-- a part alone
abbrev pub alone : Piece → Came
alone q = more nothing_came q

-- What a part makes of others: parts are missing; they are given up, and these begin; they are the
-- message's.
pub data Turn : Type 0 where
  Waits : Came → Turn
  GivesUp : News → Came → Turn
  Gives : Came → List ℕ → Turn

-- with what is begun anew if a whole isn't given out: with the part that made it whole, which
-- may be of the next message, or with nothing
abbrev pub seed : (again : Bool) → Piece → Came
seed again q = if again then alone q else nothing_came

-- what a whole makes: it is given, if it is fit to be, though its parts may not have come in
-- their order
abbrev pub turn_fit : (again : Bool) → Piece → Came → List ℕ → Option MisfitAs → Turn
turn_fit again q c m None = Gives c m
turn_fit again q c m (Some e) = GivesUp (Unfit e) (seed again q)

-- what parts make that are joined to this
abbrev pub turn_joined : Reading → (any again : Bool) → Piece → Came → Option (List ℕ) → Turn
turn_joined r any again q c None = Waits c
turn_joined r any again q c (Some m) = turn_fit again q c m (unfit r any false m)

-- what these make, with a part: one that contradicts the others begins anew
abbrev pub turn_by : Reading → (any again : Bool) → Piece → Came → Turn
turn_by r any again q c =
    if is_some c.against then GivesUp (parts_dropped c) (alone q)
    else turn_joined r any again q c (message_of c.parts)

-- what a part makes of others
unfoldable pub turn : Reading → (any again : Bool) → Came → Piece → Turn
turn r any again c q = turn_by r any again q (more c q)

-- whether it is a part of the last message
abbrev pub is_old : Option Came → Piece → Bool
is_old None q = false
is_old (Some c) q = has_part c.parts q

-- what it makes of the new parts: one of the last message nothing
abbrev pub new_turn : Reading → (any again : Bool) → Held → Piece → Turn
new_turn r any again h q = if is_old h.last q then Waits h.new else turn r any again h.new q

-- what it makes of all parts
abbrev pub all_turn : Reading → (any again : Bool) → Option Came → Piece → Option Turn
all_turn r any again all q = option_map (λ c. turn r any again c q) all

-- a message is given out, and its name is begun anew
abbrev pub message_given : Came → List ℕ → Held × Option News
message_given c m = (held_begun (Some c) nothing_came, Some (Given m))

-- by all parts, if the new ones are these and not whole: if all would be given up, only the
-- new ones are gone on with, in which nothing is lost
abbrev pub after_all : (last : Option Came) → Came → Option Turn → Held × Option News
after_all last new None = (record { last = last; all = None; new = new }, None)
after_all last new (Some (Waits c)) = (record { last = last; all = Some c; new = new }, None)
after_all last new (Some (GivesUp w c)) = (record { last = last; all = None; new = new }, None)
after_all last new (Some (Gives c m)) = message_given c m

-- by the new parts first: if they are given up this is told, and all begin anew as they do
abbrev pub after : (last : Option Came) → Turn → Option Turn → Held × Option News
after last (Waits c) o = after_all last c o
after last (GivesUp w c) o = (held_begun last c, Some w)
after last (Gives c m) o = message_given c m

-- what is kept with a part more, and what is told
unfoldable pub gather : Reading → (any again : Bool) → Held → Piece → Held × Option News
gather r any again h q = after h.last (new_turn r any again h q) (all_turn r any again h.all q)

-- ---- parts that come in their order

-- Parts 1, 2 and so on that came in their order: behind the first of them nothing came of the name
-- but the next one, or one of these again.
pub record Run : Type 0 where
  pub order : Order
  pub came : Came

-- none
abbrev pub no_run : Run
no_run = record { order = no_order; came = nothing_came }

-- What a part makes of them: it goes on, with these; they are the message's, and with few counts
-- missing between them or not.
pub data RunTurn : Type 0 where
  Goes : Run → RunTurn
  Ends : Came → List ℕ → (sure : Bool) → RunTurn

-- by what they are joined to
abbrev pub run_joined : Order → Came → Option (List ℕ) → RunTurn
run_joined o c None = Goes (record { order = o; came = c })
run_joined o c (Some m) = Ends c m (is_in_order (last_of c.parts) o)

abbrev pub run_by : Order → Came → RunTurn
run_by o c = if is_some c.against then Goes no_run else run_joined o c (message_of c.parts)

-- those behind which it comes: a first part begins anew
abbrev pub run_before : Run → (number : ℕ) → Run
run_before r n = if n == 1 then no_run else r

-- a part more, up to which so many counts are missing
unfoldable pub run_turn : Run → (now : ℕ) → Piece → RunTurn
run_turn r now q =
    if nat_le q.number ((run_before r q.number).order.count + 1)
    then run_by (order_after (run_before r q.number).order q.number now)
    (more (run_before r q.number).came q)
    else Goes no_run

-- ---- both

-- What is kept of a name. Whether the new parts have some that came before the run began, and
-- whether a message was given out since it began.
pub record Course : Type 0 where
  pub held : Held
  pub run : Run
  pub stale : Bool
  pub gave : Bool

-- nothing came behind this message
abbrev pub fresh : (last : Option Came) → Course
fresh last = record {
  held = held_begun last nothing_came;
  run = no_run;
  stale = false;
  gave = false;
}

-- nothing came
abbrev pub nothing : Course
nothing = fresh None

-- no part is there
abbrev pub is_empty : Came → Bool
is_empty c = highest c.parts == 0

-- whether parts are joined to this message
abbrev pub spells : Option (List ℕ) → List ℕ → Bool
spells None m = false
spells (Some w) m = same_octets w m

-- what is told of a message whose parts came in their order: if parts came before them that
-- aren't all its own, these are given up
abbrev pub told_in_order : (own : Bool) → Came → List ℕ → News
told_in_order own c m = if own then Given m else overtaken c m

-- whether the new parts are all the message's, which has these
abbrev pub are_own : Course → (whole : Came) → Bool
are_own c d = not c.stale || are_of c.held.new.parts d.parts

-- behind a part 1, the new parts before it came before the run
abbrev pub staleness : Course → (number : ℕ) → Bool
staleness c n = if n == 1 then not (is_empty c.held.new) else c.stale

-- behind a part 1, no message was given out since the run began
abbrev pub gave_before : Course → (number : ℕ) → Bool
gave_before c n = if n == 1 then false else c.gave

-- whether this tells of a message
abbrev pub is_given : Option News → Bool
is_given None = false
is_given (Some (Given m)) = true
is_given (Some (Dropped parts last)) = false
is_given (Some (Unfit e)) = false
is_given (Some (Overtaken parts last m)) = true

-- by what the others made of the part: if something is told, no part is left from before the run
abbrev pub course_by : Run → (stale gave : Bool) → Held → Option News → Course
course_by r stale gave h o =
    record { held = h; run = r; stale = stale && is_none o; gave = gave || is_given o }

-- a part with which no message is given out whose parts came in their order, if this is the run
-- with it
abbrev pub go_on : Reading → (any again : Bool) → Course → Piece → Course × Option News
go_on r any again c q = (
  course_by c.run (staleness c q.number) (gave_before c q.number)
      (gather r any again c.held q).0
      (gather r any again c.held q).1,
  (gather r any again c.held q).1,
)

-- whether the last message is this
abbrev pub is_same : Option Came → List ℕ → Bool
is_same None m = false
is_same (Some c) m = spells (message_of c.parts) m

-- whether it is, and was given out since the run began
abbrev pub repeats : Course → (number : ℕ) → List ℕ → Bool
repeats c n m = gave_before c n && is_same c.held.last m

-- if it isn't, it is given out
abbrev pub end_by : Reading → (any : Bool) → Course → Piece → Came → List ℕ → (again : Bool)
    → Course × Option News
end_by r any c q d m true = go_on r any false c q
end_by r any c q d m false =
    (fresh (Some d), Some (told_in_order (are_own c d) c.held.new m))

-- one with which one is whole: it is given out, if it may be and wasn't yet
abbrev pub end_run : Reading → (any : Bool) → Course → Piece → Came → List ℕ → Option MisfitAs
    → Course × Option News
end_run r any c q d m None = end_by r any c q d m (repeats c q.number m)
end_run r any c q d m (Some e) = go_on r any false c q

-- by the run first
abbrev pub step_by : Reading → (any : Bool) → Course → Piece → RunTurn → Course × Option News
step_by r any c q (Goes run) = go_on r any true (record c { run = run }) q
step_by r any c q (Ends d m sure) =
    end_run r any (record c { run = no_run }) q d m (unfit r any sure m)

-- what is kept with a part more, up to which so many counts are missing, and what is told
unfoldable pub step : Reading → (any : Bool) → (now : ℕ) → Course → Piece → Course × Option News
step r any now c q = step_by r any c q (run_turn c.run now q)

-- the same of what a packet carries
abbrev pub step_of :
    Reading → (any : Bool) → (now : ℕ) → Course → Option Piece → Course × Option News
step_of r any now c None = (c, None)
step_of r any now c (Some q) = step r any now c q

-- ---- packets

-- how many counts are missing up to a packet, behind so many
abbrev pub missing_at : Reading → Counted → List ℕ → ℕ
missing_at r k b = (packet_counted r k b).missing

-- what is kept of a name behind these packets, with the counts before them
abbrev pub held_from :
    Reading → (any : Bool) → Name → Counted → Course → List (List ℕ) → Course
held_from r any n k h [] = h
held_from r any n k h (b ∷ bs) =
    held_from r any n (packet_counted r k b)
    (step_of r any (missing_at r k b) h (part_of n (part_carried r b))).0 bs

-- what is kept of it behind packets
abbrev pub course_held : Reading → (any : Bool) → Name → List (List ℕ) → Course
course_held r any n bs = held_from r any n nothing_counted nothing bs

-- the counts behind packets
abbrev pub counts_of : Reading → List (List ℕ) → Counted
counts_of r bs = all_counted r nothing_counted bs

-- the news, as a list
abbrev pub news_listed : Option News → List News
news_listed None = []
news_listed (Some w) = w ∷ []

-- what is told of a name as they come
abbrev pub news_from :
    Reading → (any : Bool) → Name → Counted → Course → List (List ℕ) → List News
news_from r any n k c [] = []
news_from r any n k c (b ∷ bs) =
    news_listed (step_of r any (missing_at r k b) c (part_of n (part_carried r b))).1
    ++ news_from r any n (packet_counted r k b)
    (step_of r any (missing_at r k b) c (part_of n (part_carried r b))).0 bs

-- what is told at the end: of new parts that are left, which are numbered from 1
abbrev pub news_left : Course → List News
news_left c = if is_empty c.held.new then [] else parts_dropped c.held.new ∷ []

-- all that is told of a name over the packets of a stream
abbrev pub news : Reading → (any : Bool) → Name → List (List ℕ) → List News
news r any n bs =
    news_from r any n nothing_counted nothing bs ++ news_left (course_held r any n bs)
