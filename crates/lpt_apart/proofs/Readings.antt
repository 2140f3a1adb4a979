-- A reading back is a restart within limits.
use Rattle.std.proofs.Common.{◌≡◌, ap, sym, subst, ℕ, List, Ok}
use Rattle.lpt_acts.specs.Acts.{Limits, with_limits}
use Rattle.lpt_events.specs.declared.config.Config.{Config}
use Rattle.lpt_events.specs.declared.side.Side.{Side}
use Rattle.lpt_events.specs.declared.side.Side.TheVariants.{Ground, Craft}
use Rattle.lpt_node.specs.Restarts.{limits_at}
use Rattle.lpt_state.specs.Lastings.{IsBoundAlike, restarted_as}
use Rattle.lpt_state.specs.Spellings.{state_spelled}
use Rattle.lpt_state.specs.Verdicts.{reading}
use Rattle.lpt_state.proofs.LawLemmas.{written_is_read_as}
use Rattle.lpt_apart.specs.Ends.{node_at}
use Rattle.lpt_apart.specs.Deeds.{end_at, IsKept, Kept, ReadingsAreRestarts, with_memories, with_read}

-- ---- a reading back

-- an end's own limits are none of what it is bound to
pub bound_within : (l : Limits) (c d : Config)
    → IsBoundAlike c d
    → IsBoundAlike (with_limits l c) d
bound_within l c d alike = record {
  apid = alike.apid;
  source = alike.source;
  part_size = alike.part_size;
  mode = alike.mode;
}

-- what was written is read
read_is : (c d : Config) (k : Kept) (side : Side) (b : List ℕ)
    → IsKept c k side
    → IsBoundAlike c d
    → state_spelled (end_at c k.pair side) ≡ b
    → reading side d b ≡ Ok (restarted_as d (end_at c k.pair side))
read_is c d k side b is alike same =
    subst (λ (x : List ℕ). reading side d x ≡ Ok (restarted_as d (end_at c k.pair side))) same
    (written_is_read_as (end_at c k.pair side) d is.is_end is.boot_left
    (bound_within (limits_at (node_at k.pair.ends side)) c d alike))

pub readings_are_restarts : ReadingsAreRestarts
readings_are_restarts c d k Ground is alike =
    ap (with_read k.pair Ground)
    (read_is c d k Ground k.ground_octets is alike
    (ap (λ (x : Kept). x.ground_octets) is.same))
readings_are_restarts c d k Craft is alike =
    let read = read_is c d k Craft k.craft_octets is alike
    (ap (λ (x : Kept). x.craft_octets) is.same) in
    let memories : k.pair.ends.memories ≡ k.memories = ap (λ (x : Kept). x.memories) is.same in
    λ i. with_memories (with_read k.pair Craft (read i)) ((sym memories) i)
