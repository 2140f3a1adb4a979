-- Two ends apart that free a name one after the other: its receiver first, and then its sender. In
-- between the receiver has the name free, and the sender has it closed.
use Rattle.std.specs.Prelude.{Bool, List, [], ◌∷◌, ◌≡◌, if◌then◌else◌, None, ⊤}
use Rattle.lpt_packet.specs.Names.{Name}
use Rattle.lpt_memory.specs.Memories.{Contents}
use Rattle.lpt_events.specs.declared.config.Config.{Config}
use Rattle.lpt_node.specs.Nodes.{NodeData}
use Rattle.std.specs.FinMap as maps
use Rattle.lpt_packet.specs.declared.direction.Direction.TheVariants.{Up, Down}
use Rattle.lpt_events.specs.Configs.{IsConfig}
use Rattle.lpt_ledger.specs.Marks.{Marks}
use Rattle.lpt_apart.specs.Ends.{Ends, Pair, no_pair, Move, pair_after, Do, Free}
use Rattle.lpt_apart.specs.TwoEnds.{CanMove}
use Rattle.lpt_apart.specs.Worlds.{IsEventStep, IsAWorld}

-- two ends after these moves, the newest of which stands first
abbrev pub came_to : Config → Contents → List Move → Pair
came_to c first [] = no_pair c first
came_to c first (x ∷ xs) = pair_after c (came_to c first xs) x

-- each move can happen after those before it
abbrev pub CanMoveAll : Config → Contents → List Move → Type 0
CanMoveAll c first [] = ⊤
CanMoveAll c first (x ∷ xs) = CanMoveAll c first xs × CanMove c (came_to c first xs) x

-- a node whose receiver knows these names
abbrev pub with_ledger : Marks → NodeData → NodeData
with_ledger m n = record n { receiving = record n.receiving { ledger = m } }

-- two ends whose receivers know these names
abbrev pub with_ledgers : (on_ground on_craft : Marks) → Ends → Ends
with_ledgers g k e =
    record e { on_ground = with_ledger g e.on_ground; on_craft = with_ledger k e.on_craft }

-- a receiver knows what another knows but for the freed names
abbrev pub KnowsLess : Marks → (Name → Bool) → Marks → Type 0
KnowsLess less freed m =
    (name : Name) → maps.get less name ≡ (if freed name then None else maps.get m name)

-- a move sets no clock back, sets no limits, and ends no reception before its time
abbrev pub IsEventMove : Move → Type 0
IsEventMove (Do x) = IsEventStep x
IsEventMove (Free d name) = ⊤

-- no move does
abbrev pub AreEventMoves : List Move → Type 0
AreEventMoves [] = ⊤
AreEventMoves (x ∷ xs) = AreEventMoves xs × IsEventMove x

-- two ends are a world's, but that their receivers have freed some names already
pub record IsAWorldBut (c : Config) (first : Contents) (usual : Type 0) (p : Pair)
    : Type 0 where
  pub whole : Ends
  pub on_ground : Marks
  pub on_craft : Marks
  pub world : IsAWorld c first usual whole
  pub less_on_ground : KnowsLess on_ground (p.freed Down) whole.on_ground.receiving.ledger
  pub less_on_craft : KnowsLess on_craft (p.freed Up) whole.on_craft.receiving.ledger
  pub is : with_ledgers on_ground on_craft whole ≡ p.ends

-- whatever two ends did, they are a world's but for freed names
abbrev pub EndsApartAreAWorld : Type 0
EndsApartAreAWorld =
    (c : Config) (first : Contents) (xs : List Move)
    → IsConfig c
    → CanMoveAll c first xs
    → IsAWorldBut c first (AreEventMoves xs) (came_to c first xs)
