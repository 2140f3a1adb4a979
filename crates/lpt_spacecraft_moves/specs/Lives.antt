-- A ground end, and the spacecraft's program, which is killed and started again.
use Rattle.std.specs.Prelude.{◌≡◌, ℕ, ◌+◌, ◌<◌, ◌^◌, List, [], ◌∷◌, Ok, ⊤}
use Rattle.lpt_packet.specs.declared.direction.Direction.TheVariants.{Up, Down}
use Rattle.lpt_events.specs.Configs.{IsConfig}
use Rattle.lpt_events.specs.declared.config.Config.{Config}
use Rattle.lpt_events.specs.declared.side.Side.TheVariants.{Ground, Craft}
use Rattle.lpt_memory.specs.Memories.{Contents}
use Rattle.lpt_node.specs.Nodes.{NodeView}
use Rattle.lpt_state.specs.Lastings.{IsEnd}
use Rattle.lpt_state.specs.Spellings.{state_spelled}
use Rattle.lpt_state.specs.Verdicts.{reading}
use Rattle.lpt_acts.specs.Acts.{limits_of}
use Rattle.lpt_apart.specs.Ends.{Pair, Move, Do, Free, pair_after, Accept, Expire, Finish, Open, Plain, Restart, Retire, Send, Tick}
use Rattle.lpt_apart.specs.TwoEnds.{Own, later, no_pair_later, CanMove, came_since, WithholdsNothing, IsPromised}
use Rattle.lpt_spacecraft.specs.Flights.{Flight, Input, new_flight, step}
use Rattle.lpt_spacecraft.specs.Serving.{Onboard, new_end}
use Rattle.lpt_spacecraft_moves.specs.Moves.{after_moves, AreMovesFor, IsCraftOf, MayBring}

-- two ends apart, the spacecraft's as its program has it, and the moves that were made of them, the
-- newest first
pub record Joined : Type 0 where
  pub pair : Pair
  pub flight : Flight
  pub moves : List Move

-- a move is one of ground alone
abbrev pub IsOfGround : Move → Type 0
IsOfGround (Do (Open Up name m)) = ⊤
IsOfGround (Do (Send Up name k)) = ⊤
IsOfGround (Do (Plain source flags service subtype body)) = ⊤
IsOfGround (Do (Finish Up name)) = ⊤
IsOfGround (Do (Accept Down b)) = ⊤
IsOfGround (Do (Tick Ground turn)) = ⊤
IsOfGround (Do (Expire Ground which)) = ⊤
IsOfGround (Do (Retire Up name)) = ⊤
IsOfGround (Do (Restart Ground)) = ⊤
IsOfGround (Free Down name) = ⊤
IsOfGround _ = ⊥

-- ---- what is done

-- Ground makes a move. Something comes to the spacecraft, and these are its moves for it, the
-- oldest first. Or the spacecraft's program was killed, and is started again with this end; from
-- now on names are free again after so many ticks.
pub data Deed : Type 0 where
  Makes : Move → Deed
  Takes : Input → List Move → Deed
  Starts : (reuse : ℕ) → Onboard → Deed

-- these are the moves that the spacecraft makes of what comes
abbrev pub AreItsMoves : Config → Pair → Flight → Input → List Move → Type 0
AreItsMoves c p f x ms = (are : AreMovesFor c p f x) × (are.moves ≡ ms)

-- an end as it is kept
abbrev pub view_of : Config → Onboard → NodeView
view_of c s = record { side = Craft; config = c; at = s.node }

-- What was kept of an end last is this state, with its memories; the other was made of that, and of
-- the memories that were kept. A number is left for a start.
--
-- Assumed: `lpt spacecraft` is started again with what it kept last and within the same limits, and
-- its memories were named in the order of their identifiers.
pub record IsStarted (c : Config) (s t : Onboard) : Type 0 where
  pub state : List ℕ
  pub kept : state ≡ state_spelled (view_of c s)
  pub is_end : IsEnd (view_of c s)
  pub number_left : s.node.boot + 1 < 2 ^ 64
  pub read : reading Craft c state ≡ Ok (view_of c t)
  pub memories : t.memories ≡ s.memories

-- Ground's move can be made. What comes to the spacecraft the network may hand over, and names that
-- it frees may be. It can be killed at any place between two packets.
abbrev pub CanDo : Config → Joined → Deed → Type 0
CanDo c j (Makes x) = IsOfGround x × CanMove c j.pair x
CanDo c j (Takes x ms) = MayBring c j.pair j.flight x × AreItsMoves c j.pair j.flight x ms
CanDo c j (Starts reuse t) = IsStarted c j.flight.end t

-- moves, the oldest first, behind others, the newest of which stands first
abbrev pub behind : List Move → List Move → List Move
behind [] before = before
behind (x ∷ xs) before = behind xs (x ∷ before)

-- what a deed makes of them
abbrev pub joined_after : Config → Joined → Deed → Joined
joined_after c j (Makes x) = record j { pair = pair_after c j.pair x; moves = x ∷ j.moves }
joined_after c j (Takes x ms) = record {
  pair = after_moves c j.pair ms;
  flight = (step c j.flight x).flight;
  moves = behind ms j.moves;
}
joined_after c j (Starts reuse t) = record {
  pair = pair_after c j.pair (Do (Restart Craft));
  flight = new_flight reuse t;
  moves = Do (Restart Craft) ∷ j.moves;
}

-- after these deeds, the newest of which stands first
abbrev pub done_all : Config → Joined → List Deed → Joined
done_all c j [] = j
done_all c j (x ∷ xs) = joined_after c (done_all c j xs) x

-- each of them can be done after those before it
abbrev pub CanDoAll : Config → Joined → List Deed → Type 0
CanDoAll c j [] = ⊤
CanDoAll c j (x ∷ xs) = CanDoAll c j xs × CanDo c (done_all c j xs) x

-- ---- the law

-- what the spacecraft has of its own: the clock and the limits of the configuration
abbrev pub craft_own : Config → Own
craft_own c = record { ticks = 0; limits = limits_of c }

-- two new ends, of which ground's clock began so many ticks later
--
-- Assumed: Ground's clock begins at no smaller number than the spacecraft's, as with one `clock` in
-- both configurations.
abbrev pub joined_new : Config → Contents → (ticks reuse : ℕ) → Joined
joined_new c first ticks reuse = record {
  pair = no_pair_later c first ticks (craft_own c);
  flight = new_flight reuse (new_end c first);
  moves = [];
}

-- The spacecraft's end is the program's. Both keep the promise, and what came whole was released.
-- Whatever may come next to the spacecraft is moves.
pub record KeepsThePromise (c : Config) (first : Contents) (start : Pair) (j : Joined)
    : Type 0 where
  pub craft : IsCraftOf j.pair j.flight.end
  pub promised : IsPromised c first j.pair.ends
  pub whole : WithholdsNothing c j.pair.ends.log (came_since c start j.moves)
  pub goes_on : (x : Input)
      → MayBring c j.pair j.flight x
      → AreMovesFor c j.pair j.flight x

-- whatever was done with two new ends
abbrev pub GroundAndSpacecraftKeepThePromise : Type 0
GroundAndSpacecraftKeepThePromise =
    (c : Config) (first : Contents) (ticks reuse : ℕ) (xs : List Deed)
    → IsConfig c
    → IsConfig (later ticks c)
    → CanDoAll c (joined_new c first ticks reuse) xs
    → KeepsThePromise c first (joined_new c first ticks reuse).pair
    (done_all c (joined_new c first ticks reuse) xs)
