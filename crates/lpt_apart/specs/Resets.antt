-- Two ends apart whose machines are reset at any time, also if they have done what they haven't
-- written.
--
-- What a machine did since it was last written is deleted by its reset from what was done. So what
-- was done is a history of two ends apart, whatever was deleted of it.
use Rattle.std.specs.Prelude.{◌≡◌, ℕ, ◌+◌, ◌<◌, ◌^◌, List, [], ◌∷◌, ⊤}
use Rattle.lpt_apart.specs.Ends.{after_all, node_at, Do, Free, Move, Pair, pair_after, Accept, Apply, Claim, Commit, Expire, Finish, Open, Plain, Restart, Retire, Send, Tick}
use Rattle.lpt_apart.specs.TwoEnds.{CanAll, Own, later, no_pair_later, own_config, CanMove, came_since, WithholdsNothing, IsPromised}
use Rattle.lpt_apart.specs.Deeds.{Kept, end_at, read_back, with_restart, state_written}
use Rattle.lpt_events.specs.Configs.{IsConfig}
use Rattle.lpt_events.specs.Sides.{receiver_side, sender_side}
use Rattle.lpt_events.specs.declared.config.Config.{Config}
use Rattle.lpt_events.specs.declared.side.Side.{Side}
use Rattle.lpt_events.specs.declared.side.Side.TheVariants.{Ground, Craft}
use Rattle.lpt_memory.specs.Memories.{Contents}
use Rattle.lpt_node.specs.Restarts.{node_restarted}
use Rattle.lpt_packet.specs.Names.{Name}
use Rattle.lpt_packet.specs.declared.direction.Direction.{Direction}
use Rattle.lpt_state.specs.Lastings.{IsBoundAlike, IsEnd}

-- ---- what is deleted

-- the side whose end makes a move
abbrev pub side_of : Move → Side
side_of (Do (Open d name m)) = sender_side d
side_of (Do (Send d name k)) = sender_side d
side_of (Do (Plain source flags service subtype body)) = Ground
side_of (Do (Finish d name)) = sender_side d
side_of (Do (Accept d b)) = receiver_side d
side_of (Do (Tick side turn)) = side
side_of (Do (Expire side which)) = side
side_of (Do (Claim w)) = Craft
side_of (Do (Commit w)) = Craft
side_of (Do (Apply how)) = Craft
side_of (Do (Retire d name)) = sender_side d
side_of (Do (Restart side)) = side
side_of (Free d name) = receiver_side d

-- The machines as they are, with what was last written of each; the moves that they made; and
-- those moves but for what ground made since it was last written, but for what the spacecraft
-- did, and but for what either did.
pub record Lived : Type 0 where
  pub kept : Kept
  pub moves : List Move
  pub but_ground : List Move
  pub but_craft : List Move
  pub but_both : List Move

-- a machine makes a move; it makes one that a restart of it forgets; it is written; or it is
-- reset and read back in a configuration
pub data Deed : Type 0 where
  Make : Move → Deed
  MakeForgotten : Move → Deed
  Write : Side → Deed
  Reset : Side → Config → Deed

-- the machines after a move
abbrev pub with_move : Config → Kept → Move → Kept
with_move c k x = record k { pair = pair_after c k.pair x }

-- a machine of this side makes a move
abbrev pub move_made : Config → Lived → Side → Move → Lived
move_made c l Ground x = record l {
  kept = with_move c l.kept x;
  moves = x ∷ l.moves;
  but_craft = x ∷ l.but_craft;
}
move_made c l Craft x = record l {
  kept = with_move c l.kept x;
  moves = x ∷ l.moves;
  but_ground = x ∷ l.but_ground;
}

-- a machine makes a move that its reset needn't delete
abbrev pub made_forgotten : Config → Lived → Move → Lived
made_forgotten c l x = record {
  kept = with_move c l.kept x;
  moves = x ∷ l.moves;
  but_ground = x ∷ l.but_ground;
  but_craft = x ∷ l.but_craft;
  but_both = x ∷ l.but_both;
}

-- what a deed makes of them
abbrev pub lived_after : Config → Lived → Deed → Lived
lived_after c l (Make x) = move_made c l (side_of x) x
lived_after c l (MakeForgotten x) = made_forgotten c l x
lived_after c l (Write Ground) = record l {
  kept = state_written c l.kept Ground;
  but_ground = l.moves;
  but_both = l.but_craft;
}
lived_after c l (Write Craft) = record l {
  kept = state_written c l.kept Craft;
  but_craft = l.moves;
  but_both = l.but_ground;
}
lived_after c l (Reset Ground d) = record l {
  kept = read_back d l.kept Ground;
  moves = with_restart d Ground l.but_ground;
  but_craft = with_restart d Ground l.but_both;
}
lived_after c l (Reset Craft d) = record l {
  kept = read_back d l.kept Craft;
  moves = with_restart d Craft l.but_craft;
  but_ground = with_restart d Craft l.but_both;
}

-- ---- what may be done

-- the list that a reset of a side's machine leaves
abbrev pub left_without : Lived → Side → List Move
left_without l Ground = l.but_ground
left_without l Craft = l.but_craft

-- A restart forgets a move: it comes to the same end with it and without it, and the move leaves
-- the workers' jobs and the memories. So it is if a part or a plain request is sent and if
-- a message is finished.
pub record IsForgotten (c : Config) (p : Pair) (x : Move) : Type 0 where
  pub node : node_restarted (node_at (pair_after c p x).ends (side_of x))
      ≡ node_restarted (node_at p.ends (side_of x))
  pub tickets : (pair_after c p x).ends.tickets ≡ p.ends.tickets
  pub memories : (pair_after c p x).ends.memories ≡ p.ends.memories

-- an end can be written, and a boot is left
pub record IsWritable (c : Config) (p : Pair) (side : Side) : Type 0 where
  pub is_end : IsEnd (end_at c p side)
  pub boot_left : (node_at p.ends side).boot + 1 < 2 ^ 64

-- A machine can be reset if what is left can be done without what is deleted: so nothing that it
-- put out since it was last written was handed over, and the other end freed no name because of it.
-- Workers have the jobs that they had when the spacecraft was written.
abbrev pub CanReset : Config → (start : Pair) → Lived → Side → Type 0
CanReset c start l Ground = CanAll c start l.but_ground
CanReset c start l Craft =
    CanAll c start l.but_craft
    × (l.kept.pair.ends.tickets ≡ (after_all c start l.but_craft).ends.tickets)

-- A deed can be done after what is left. A machine is read back in a configuration that differs in
-- limits and first clock alone.
abbrev pub CanLive : Config → (start : Pair) → Lived → Deed → Type 0
CanLive c start l (Make x) = CanMove c (after_all c start l.moves) x
CanLive c start l (MakeForgotten x) =
    CanMove c (after_all c start l.moves) x
    × IsForgotten c (after_all c start (left_without l (side_of x))) x
CanLive c start l (Write side) = IsWritable c l.kept.pair side
CanLive c start l (Reset side d) = CanReset c start l side × IsBoundAlike c d

-- after these deeds, the newest of which stands first
abbrev pub lived_all : Config → Lived → List Deed → Lived
lived_all c l [] = l
lived_all c l (x ∷ xs) = lived_after c (lived_all c l xs) x

-- each of them can be done after those before it
abbrev pub CanLiveAll : Config → (start : Pair) → Lived → List Deed → Type 0
CanLiveAll c start l [] = ⊤
CanLiveAll c start l (x ∷ xs) =
    CanLiveAll c start l xs × CanLive c start (lived_all c l xs) x

-- ---- the laws

-- whatever is sent or finished
abbrev pub SendingsAreForgotten : Type 0
SendingsAreForgotten =
    (c : Config) (p : Pair) (d : Direction) (name : Name) (k : ℕ)
    (source flags service subtype : ℕ) (body : List ℕ)
    → IsForgotten c p (Do (Send d name k))
    × IsForgotten c p (Do (Plain source flags service subtype body))
    × IsForgotten c p (Do (Finish d name))

-- two ends that were written before they did anything
abbrev pub just_written : Config → Kept → Lived
just_written c k = record {
  kept = state_written c (state_written c k Ground) Craft;
  moves = [];
  but_ground = [];
  but_craft = [];
  but_both = [];
}

-- What is left of what was done can be done, and comes to the nodes, jobs and memories that the
-- machines have. Two ends apart that did it keep the promise, and what came whole with it was
-- released.
pub record IsLeft (c : Config) (first : Contents) (start : Pair) (l : Lived) : Type 0 where
  pub can : CanAll c start l.moves
  pub ground : l.kept.pair.ends.on_ground ≡ (after_all c start l.moves).ends.on_ground
  pub craft : l.kept.pair.ends.on_craft ≡ (after_all c start l.moves).ends.on_craft
  pub tickets : l.kept.pair.ends.tickets ≡ (after_all c start l.moves).ends.tickets
  pub memories : l.kept.pair.ends.memories ≡ (after_all c start l.moves).ends.memories
  pub promised : IsPromised c first (after_all c start l.moves).ends
  pub whole : WithholdsNothing c (after_all c start l.moves).ends.log
      (came_since c start l.moves)

-- whatever was done with two new ends that were written, also if they were reset in between,
-- once or again and again
abbrev pub ResetEndsKeepThePromise : Type 0
ResetEndsKeepThePromise =
    (c : Config) (first : Contents) (g : ℕ) (t : Own) (k : Kept) (xs : List Deed)
    → IsConfig (later g c)
    → IsConfig (own_config t c)
    → k.pair ≡ no_pair_later c first g t
    → IsWritable c k.pair Ground
    → IsWritable c k.pair Craft
    → CanLiveAll c k.pair (just_written c k) xs
    → IsLeft c first k.pair (lived_all c (just_written c k) xs)
