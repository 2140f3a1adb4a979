-- Two ends apart, of each of which its state is written down now and then, and read back when its
-- machine was reset, within the limits that it had or within others.
--
-- What an end did and didn't write is no move: nothing of it was acted on or sent, so it is as if
-- it hadn't come to it.
use Rattle.std.specs.Prelude.{◌≡◌, ℕ, ◌+◌, ◌<◌, ◌^◌, List, [], ◌∷◌, Result, Ok, Err}
use Rattle.lpt_acts.specs.Acts.{Within, limits_of, with_limits}
use Rattle.lpt_apart.specs.Ends.{after_all, node_at, with_node, Restarted, Do, Move, Pair, Restart, Tick}
use Rattle.lpt_events.specs.declared.config.Config.{Config}
use Rattle.lpt_events.specs.declared.side.Side.{Side}
use Rattle.lpt_events.specs.declared.side.Side.TheVariants.{Ground, Craft}
use Rattle.lpt_memory.specs.Memories.{Contents}
use Rattle.lpt_node.specs.Nodes.{NodeData, NodeView}
use Rattle.lpt_node.specs.Restarts.{limits_at}
use Rattle.lpt_state.specs.Lastings.{IsBoundAlike, IsEnd}
use Rattle.lpt_state.specs.Spellings.{state_spelled}
use Rattle.lpt_state.specs.Verdicts.{reading}
use Rattle.lpt_state.specs.declared.fault.StateFault.{StateFault}

-- ---- what is written

-- two ends, the octets that were last written of each, and the memories that were written with the
-- spacecraft's
pub record Kept : Type 0 where
  pub pair : Pair
  pub ground_octets : List ℕ
  pub craft_octets : List ℕ
  pub memories : Contents

-- an end as it can be written: its limits are its own
abbrev pub end_of : Config → Side → NodeData → NodeView
end_of c side n = record { side = side; config = with_limits (limits_at n) c; at = n }

-- the end of a side
abbrev pub end_at : Config → Pair → Side → NodeView
end_at c p side = end_of c side (node_at p.ends side)

-- the state of a side's end is written, and with the spacecraft's the memories
abbrev pub state_written : Config → Kept → Side → Kept
state_written c k Ground = record k { ground_octets = state_spelled (end_at c k.pair Ground) }
state_written c k Craft =
    record k {
      craft_octets = state_spelled (end_at c k.pair Craft);
      memories =
          k.pair.ends.memories;
    }

-- nothing happened at a side's end since it was written: to write it again would change nothing.
-- It is one of which a state can be written, and a boot is left.
pub record IsKept (c : Config) (k : Kept) (side : Side) : Type 0 where
  pub same : state_written c k side ≡ k
  pub is_end : IsEnd (end_at c k.pair side)
  pub boot_left : (node_at k.pair.ends side).boot + 1 < 2 ^ 64

-- ---- what is read back

-- The ends, of which that of this side is what was read; if nothing could be read they stay. The
-- jobs of workers stay, too, though a machine loses them: they are of the boot before, so that what
-- is handed in of them changes nothing.
abbrev pub with_read : Pair → Side → Result NodeView StateFault → Pair
with_read p side (Ok v) =
    record p {
      ends = record (with_node p.ends side v.at) { log = Restarted side ∷ p.ends.log };
    }
with_read p side (Err fault) = p

-- the ends with these memories
abbrev pub with_memories : Pair → Contents → Pair
with_memories p ms = record p { ends = record p.ends { memories = ms } }

-- the end of a side is read back, in this configuration, from what was last written of it, the
-- spacecraft's with its memories
abbrev pub read_back : Config → Kept → Side → Kept
read_back c k Ground =
    record k { pair = with_read k.pair Ground (reading Ground c k.ground_octets) }
read_back c k Craft =
    record k {
      pair = with_memories (with_read k.pair Craft (reading Craft c k.craft_octets)) k.memories;
    }

-- ---- the law

-- these moves, after which the end of a side is restarted and then has the limits of this
-- configuration; the newest stands first
abbrev pub with_restart : Config → Side → List Move → List Move
with_restart d side xs = Do (Tick side (Within (limits_of d))) ∷ Do (Restart side) ∷ xs

-- a reading back is a restart within the limits of the configuration in which it is read
abbrev pub ReadingsAreRestarts : Type 0
ReadingsAreRestarts =
    (c d : Config) (k : Kept) (side : Side)
    → IsKept c k side
    → IsBoundAlike c d
    → (read_back d k side).pair ≡ after_all c k.pair (with_restart d side [])
