-- What was kept of a spacecraft.
use Rattle.std.specs.Prelude.{◌≡◌, ℕ, zero, suc, ◌+◌, ◌<◌, ◌^◌, List, [], ◌∷◌, ◌++◌, length, codes, Option, Some, None, Ok, ⊤}
use Rattle.lpt_events.specs.declared.side.Side.TheVariants.{Craft}
use Rattle.lpt_memory.specs.Memories.{content_of, Contents}
use Rattle.lpt_packet.specs.Numbers.{be}
use Rattle.lpt_packet.specs.Packets.{octets_sealed}
use Rattle.lpt_state.specs.Lastings.{restarted_node, IsEnd}
use Rattle.lpt_state.specs.Spellings.{state_spelled}
use Rattle.lpt_state.specs.Verdicts.{reading}
use Rattle.lpt_spacecraft.specs.declared.spacecraft.Spacecraft.{Spacecraft}

-- ---- as octets

-- a memory of this identifier, if there is one: the identifier, its length in 64 bits, its
-- octets
abbrev pub kept_memory : ℕ → Option (List ℕ) → List ℕ
kept_memory id None = []
kept_memory id (Some m) = id ∷ [] ++ be (length m) 8 ++ m

-- the memories of the first identifiers, so many
unfoldable pub kept_memories : ℕ → Contents → List ℕ
kept_memories zero ms = []
kept_memories (suc id) ms = kept_memories id ms ++ kept_memory id (content_of id ms)

-- what stands in front: tag 32 bits, version 8, and the length of the state 64
unfoldable pub kept_head : (len : ℕ) → List ℕ
kept_head len = codes "LPTK" ++ 1 ∷ [] ++ be len 8

-- a state and memories, by identifier, with the checksum of all of them behind
unfoldable pub kept_octets : (state : List ℕ) → Contents → List ℕ
kept_octets state ms = octets_sealed (kept_head (length state) ++ state ++ kept_memories 256 ms)

-- what was kept last is this spacecraft, its state and its memories, if that is known
abbrev pub IsKeptAs : Option (List ℕ) → Spacecraft → Type 0
IsKeptAs None s = ⊤
IsKeptAs (Some b) s = b ≡ kept_octets (state_spelled s.node) s.memories

-- the length of a memory, if there is one, is a number of 64 bits
abbrev pub HasLength : Option (List ℕ) → Type 0
HasLength None = ⊤
HasLength (Some m) = length m < 2 ^ 64

-- so are those of a state and of all memories
pub record HaveLengths (b : List ℕ) (ms : Contents) : Type 0 where
  pub state : length b < 2 ^ 64
  pub memories : (id : ℕ) → id < 256 → HasLength (content_of id ms)

-- ---- what is read of them

-- a spacecraft is what a restart leaves of that which these octets are kept of
pub record IsReadFrom (octets : List ℕ) (s : Spacecraft) : Type 0 where
  pub state : List ℕ
  pub kept : octets ≡ kept_octets state s.memories
  pub lengths : HaveLengths state s.memories
  pub node : reading Craft s.config state ≡ Ok s.node

-- what holds of a spacecraft that could be kept
pub record IsKept (s : Spacecraft) : Type 0 where
  pub is_end : IsEnd s.node
  pub lengths : HaveLengths (state_spelled s.node) s.memories

-- a spacecraft has the node that a restart leaves of another, and its memories, each with the
-- content that it had
pub record IsAgain (s t : Spacecraft) : Type 0 where
  pub node : t.node ≡ restarted_node s.node
  pub memories : (id : ℕ) → id < 256 → content_of id t.memories ≡ content_of id s.memories

-- what is read of what was kept is that, if a number is left for a start
abbrev pub KeptIsRead : Type 0
KeptIsRead =
    (s t : Spacecraft)
    → IsKept s
    → s.node.at.boot + 1 < 2 ^ 64
    → t.config ≡ s.config
    → IsReadFrom (kept_octets (state_spelled s.node) s.memories) t
    → IsAgain s t
