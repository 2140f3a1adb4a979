-- Two ends apart that free names by lines: so they free them in order, and keep the promise.
use Rattle.std.specs.Prelude.{◌≡◌, ℕ, true, List, [], ◌∷◌, Option, Some, None, Contains, ⊤}
use Rattle.lpt_packet.specs.declared.direction.Direction.{Direction}
use Rattle.lpt_packet.specs.Names.{Name}
use Rattle.lpt_memory.specs.Memories.{Contents}
use Rattle.lpt_events.specs.Arrivals.{arrival_in}
use Rattle.lpt_events.specs.Configs.{IsConfig}
use Rattle.lpt_events.specs.Sides.{sender_side}
use Rattle.lpt_events.specs.declared.config.Config.{Config}
use Rattle.lpt_node.specs.Sending.{part_sent}
use Rattle.lpt_apart.specs.Ends.{after_all, node_at, Do, Move, Pair, no_pair, Accept, Retire, Send, Step}
use Rattle.lpt_apart.specs.TwoEnds.{Own, later, own_config, no_pair_later, CanAll, CanMove, is_harmless, came_since, WithholdsNothing, IsPromised}
use Rattle.lpt_apart.specs.Worlds.{CanRun}
use Rattle.lpt_apart.specs.Plays.{moves_of}
use Rattle.lpt_apart.specs.Lines.{Line, Part, MaySay, answer, sends}

-- the moves that two ends made, and what their programs said, the newest first. All that was said
-- may be heard, any number of times and in any order, or never.
pub record Talk : Type 0 where
  pub moves : List Move
  pub said : List Line

-- nothing was done, and nothing said
abbrev pub no_talk : Talk
no_talk = record { moves = []; said = [] }

-- ---- what is done

-- An end makes a step by itself; it makes the packet of a part, and says it; it says something
-- else; octets come to the receiver of a direction that nobody said; or a line is heard.
pub data Act : Type 0 where
  Makes : Step → Act
  Sends : Direction → Name → (k : ℕ) → Act
  Says : Line → Act
  Comes : Direction → (octets : List ℕ) → Act
  Hears : Line → Act

-- the line of a part that is made after these moves: it goes with its name, and the turn of that
abbrev pub part_line : Config → Pair → List Move → Direction → Name → (k : ℕ) → Line
part_line c p xs d name k =
    Part d name (sends xs d name)
    (part_sent (sender_side d) c (node_at p.ends (sender_side d)) name k).1

-- moves with one more, or none
abbrev pub with_answer : Option Move → List Move → List Move
with_answer None xs = xs
with_answer (Some x) xs = x ∷ xs

-- what an act makes of two ends that began so
abbrev pub with_act : Config → (start : Pair) → Talk → Act → Talk
with_act c start t (Makes x) = record t { moves = Do x ∷ t.moves }
with_act c start t (Sends d name k) = record {
  moves = Do (Send d name k) ∷ t.moves;
  said = part_line c (after_all c start t.moves) t.moves d name k ∷ t.said;
}
with_act c start t (Says l) = record t { said = l ∷ t.said }
with_act c start t (Comes d b) = record t { moves = Do (Accept d b) ∷ t.moves }
with_act c start t (Hears l) =
    record t { moves = with_answer (answer (after_all c start t.moves).ends t.moves l) t.moves }

-- ---- when it can be done

-- an end makes a step by itself: it takes nothing that comes, sends no part, and frees no name
abbrev pub IsOwn : Step → Type 0
IsOwn (Send d name k) = ⊥
IsOwn (Accept d b) = ⊥
IsOwn (Retire d name) = ⊥
IsOwn _ = ⊤

-- An end makes a step as before, and says what it may. Octets that nobody said are neither a part
-- nor a plain request. What is heard was said.
abbrev pub CanAct : Config → (start : Pair) → Talk → Act → Type 0
CanAct c start t (Makes x) = IsOwn x × CanMove c (after_all c start t.moves) (Do x)
CanAct c start t (Sends d name k) = CanMove c (after_all c start t.moves) (Do (Send d name k))
CanAct c start t (Says l) = MaySay (after_all c start t.moves) t.moves l
CanAct c start t (Comes d b) = is_harmless (arrival_in c d b) ≡ true
CanAct c start t (Hears l) = Contains t.said l

-- two ends after these acts, the newest of which stands first
abbrev pub with_acts : Config → (start : Pair) → List Act → Talk
with_acts c start [] = no_talk
with_acts c start (x ∷ xs) = with_act c start (with_acts c start xs) x

-- each act can be done after those before it
abbrev pub CanActAll : Config → (start : Pair) → List Act → Type 0
CanActAll c start [] = ⊤
CanActAll c start (x ∷ xs) = CanActAll c start xs × CanAct c start (with_acts c start xs) x

-- ---- the laws

-- two ends can make these moves, which free names in order; so they keep the promise, and withhold
-- nothing that came whole
pub record FreesInOrder (c : Config) (first : Contents) (start : Pair)
    (xs : List Move) : Type 0 where
  pub can : CanAll c start xs
  pub promised : IsPromised c first (after_all c start xs).ends
  pub whole : WithholdsNothing c (after_all c start xs).ends.log (came_since c start xs)

-- whatever two new ends did that free names by lines, and have clocks and limits of their own
abbrev pub LinesFreeInOrder : Type 0
LinesFreeInOrder =
    (c : Config) (first : Contents) (g : ℕ) (k : Own) (xs : List Act)
    → IsConfig (later g c)
    → IsConfig (own_config k c)
    → CanActAll c (no_pair_later c first g k) xs
    → FreesInOrder c first (no_pair_later c first g k)
    (with_acts c (no_pair_later c first g k) xs).moves

-- two new ends that free names by lines can make these moves
pub record AreTalked (c : Config) (first : Contents) (xs : List Move) : Type 0 where
  pub acts : List Act
  pub can : CanActAll c (no_pair c first) acts
  pub moves : (with_acts c (no_pair c first) acts).moves ≡ xs

-- whatever steps two new ends can do, so lines shut none of them out
abbrev pub StepsAreTalked : Type 0
StepsAreTalked =
    (c : Config) (first : Contents) (xs : List Step)
    → CanRun c first xs
    → AreTalked c first (moves_of xs)
