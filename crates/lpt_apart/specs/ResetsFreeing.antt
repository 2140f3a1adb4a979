-- Two ends apart that free names by lines, whose machines are reset at any time.
--
-- An end keeps the turns of its names with its state. It says what is so, and was so when its state
-- was last kept. So what was said stays so, whatever a reset deletes.
use Rattle.std.specs.Prelude.{◌≡◌, ℕ, true, List, [], ◌∷◌, Option, Some, None, Contains, ⊤}
use Rattle.lpt_packet.specs.declared.direction.Direction.{Direction}
use Rattle.lpt_packet.specs.Names.{Name}
use Rattle.lpt_memory.specs.Memories.{Contents}
use Rattle.lpt_events.specs.Arrivals.{arrival_in}
use Rattle.lpt_events.specs.Configs.{IsConfig}
use Rattle.lpt_events.specs.Sides.{receiver_side, sender_side}
use Rattle.lpt_events.specs.declared.config.Config.{Config}
use Rattle.lpt_events.specs.declared.side.Side.{Side}
use Rattle.lpt_events.specs.declared.side.Side.TheVariants.{Ground, Craft}
use Rattle.lpt_apart.specs.Ends.{after_all, Do, Move, Pair, Accept, Finish, Plain, Send, Step}
use Rattle.lpt_apart.specs.TwoEnds.{Own, later, own_config, no_pair_later, CanMove, is_harmless}
use Rattle.lpt_apart.specs.Deeds.{Kept}
use Rattle.lpt_apart.specs.Resets.{CanLiveAll, Deed, IsLeft, IsWritable, Lived, Make, MakeForgotten, Reset, Write, just_written, left_without, lived_all, side_of}
use Rattle.lpt_state.specs.Lastings.{IsBoundAlike}
use Rattle.lpt_apart.specs.Freeing.{Act, Comes, Hears, IsOwn, Makes, Says, Sends, part_line}
use Rattle.lpt_apart.specs.Lines.{Finished, Freed, Line, MaySay, Packet, Part, answer}

-- what the machines did, the newest first, and what their programs said
pub record Story : Type 0 where
  pub deeds : List Deed
  pub said : List Line

-- nothing was done, and nothing said
abbrev pub no_story : Story
no_story = record { deeds = []; said = [] }

-- the machines after these deeds: what is left of all moves, and of what each end kept
abbrev pub machines : Config → Kept → List Deed → Lived
machines c k ds = lived_all c (just_written c k) ds

-- ---- what is done

-- an end does as before; it makes a step that a restart forgets; its state is kept, with the turns
-- of its names; or its machine is reset, and the end read back in a configuration
pub data Doing : Type 0 where
  Does : Act → Doing
  Forgets : Step → Doing
  Keeps : Side → Doing
  Resets : Side → Config → Doing

-- deeds with the move of an answer, or none
abbrev pub with_deed : Option Move → List Deed → List Deed
with_deed None ds = ds
with_deed (Some x) ds = Make x ∷ ds

-- what an end does, of machines that have this: a reset deletes it if it wasn't kept, but for
-- parts that were sent
abbrev pub done_by : Config → (start : Pair) → Lived → Story → Act → Story
done_by c start l s (Makes x) = record s { deeds = Make (Do x) ∷ s.deeds }
done_by c start l s (Sends d name k) = record {
  deeds = MakeForgotten (Do (Send d name k)) ∷ s.deeds;
  said = part_line c (after_all c start l.moves) l.moves d name k ∷ s.said;
}
done_by c start l s (Says m) = record s { said = m ∷ s.said }
done_by c start l s (Comes d b) = record s { deeds = Make (Do (Accept d b)) ∷ s.deeds }
done_by c start l s (Hears m) =
    record s { deeds = with_deed (answer (after_all c start l.moves).ends l.moves m) s.deeds }

-- what comes of it
abbrev pub gone_on : Config → Kept → Story → Doing → Story
gone_on c k s (Does x) = done_by c k.pair (machines c k s.deeds) s x
gone_on c k s (Forgets x) = record s { deeds = MakeForgotten (Do x) ∷ s.deeds }
gone_on c k s (Keeps side) = record s { deeds = Write side ∷ s.deeds }
gone_on c k s (Resets side d) = record s { deeds = Reset side d ∷ s.deeds }

-- ---- when it can be done

-- the side whose end says a line
abbrev pub speaker : Line → Side
speaker (Part d name turn b) = sender_side d
speaker (Packet d b) = sender_side d
speaker (Finished d name turn) = sender_side d
speaker (Freed d name turn) = receiver_side d

-- the sender of a name could send the same part, in the same turn, as it was kept, but for what it
-- sent and finished since
pub record IsAsKept (c : Config) (start : Pair) (l : Lived) (d : Direction) (name : Name)
    (k : ℕ) : Type 0 where
  pub can : CanMove c (after_all c start (left_without l (sender_side d))) (Do (Send d name k))
  pub same : part_line c (after_all c start (left_without l (sender_side d)))
      (left_without l (sender_side d)) d name k
      ≡ part_line c (after_all c start l.moves) l.moves d name k

-- An end does as before, after what is left. The parts that it sends, and the lines that it says,
-- it could send and say as it was kept, too.
abbrev pub CanDo : Config → (start : Pair) → Lived → List Line → Act → Type 0
CanDo c start l said (Makes x) = IsOwn x × CanMove c (after_all c start l.moves) (Do x)
CanDo c start l said (Sends d name k) =
    CanMove c (after_all c start l.moves) (Do (Send d name k)) × IsAsKept c start l d name k
CanDo c start l said (Says m) =
    MaySay (after_all c start l.moves) l.moves m
    × MaySay (after_all c start (left_without l (speaker m))) (left_without l (speaker m)) m
CanDo c start l said (Comes d b) = is_harmless (arrival_in c d b) ≡ true
CanDo c start l said (Hears m) = Contains said m

-- a restart forgets that a plain request was put out, and that a message was finished
abbrev pub IsForgotten : Step → Type 0
IsForgotten (Plain source flags service subtype body) = ⊤
IsForgotten (Finish d name) = ⊤
IsForgotten _ = ⊥

-- workers have the jobs that they had when the spacecraft was kept
abbrev pub HasItsJobs : Config → (start : Pair) → Lived → Side → Type 0
HasItsJobs c start l Ground = ⊤
HasItsJobs c start l Craft =
    l.kept.pair.ends.tickets ≡ (after_all c start l.but_craft).ends.tickets

-- What a restart forgets an end could do as it was kept, too. Its state can be kept if it can be
-- written. A machine can be reset at any time, and its end read back in a configuration that
-- differs in limits and first clock alone.
abbrev pub CanGoOn : Config → Kept → Story → Doing → Type 0
CanGoOn c k s (Does x) = CanDo c k.pair (machines c k s.deeds) s.said x
CanGoOn c k s (Forgets x) =
    IsForgotten x
    × CanMove c (after_all c k.pair (machines c k s.deeds).moves) (Do x)
    × CanMove c (after_all c k.pair (left_without (machines c k s.deeds) (side_of (Do x)))) (Do x)
CanGoOn c k s (Keeps side) = IsWritable c (machines c k s.deeds).kept.pair side
CanGoOn c k s (Resets side d) =
    HasItsJobs c k.pair (machines c k s.deeds) side × IsBoundAlike c d

-- the story of these doings, the newest of which stands first
abbrev pub gone_all : Config → Kept → List Doing → Story
gone_all c k [] = no_story
gone_all c k (x ∷ xs) = gone_on c k (gone_all c k xs) x

-- each of them can be done after those before it
abbrev pub CanGoOnAll : Config → Kept → List Doing → Type 0
CanGoOnAll c k [] = ⊤
CanGoOnAll c k (x ∷ xs) = CanGoOnAll c k xs × CanGoOn c k (gone_all c k xs) x

-- ---- the law

-- machines that are reset at any time can do these deeds; so what is left of them frees names in
-- order, keeps the promise, and withholds nothing that came whole
pub record FreesThroughResets (c : Config) (first : Contents) (k : Kept)
    (ds : List Deed) : Type 0 where
  pub can : CanLiveAll c k.pair (just_written c k) ds
  pub left : IsLeft c first k.pair (machines c k ds)

-- whatever was done with two new ends that were kept, whenever their machines were reset
abbrev pub LinesFreeThroughResets : Type 0
LinesFreeThroughResets =
    (c : Config) (first : Contents) (g : ℕ) (t : Own) (k : Kept) (xs : List Doing)
    → IsConfig (later g c)
    → IsConfig (own_config t c)
    → k.pair ≡ no_pair_later c first g t
    → IsWritable c k.pair Ground
    → IsWritable c k.pair Craft
    → CanGoOnAll c k xs
    → FreesThroughResets c first k (gone_all c k xs).deeds
