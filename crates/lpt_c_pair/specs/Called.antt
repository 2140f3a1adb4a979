-- A worked run of two ends behind handles, of which the spacecraft's has its memory.
use Rattle.std.specs.Prelude.{◌≡◌, ℕ, List, [], ◌∷◌, ◌++◌, None, replicate}
use Rattle.lpt_acts.specs.Acts as act
use Rattle.lpt_acts.specs.Acts.{limits_of}
use Rattle.lpt_apart.specs.Ends.{Asked, Left, Log, Released, Restarted}
use Rattle.lpt_apart.specs.TwoEnds.{Own}
use Rattle.lpt_c_end.specs.Changes.{IsNew}
use Rattle.lpt_c_end.specs.Contents.{memories_told}
use Rattle.lpt_c_end.specs.declared.end.End.{End}
use Rattle.lpt_c_end.specs.declared.kept.Kept.TheVariants.{Here}
use Rattle.lpt_c_end.specs.declared.memories.LptMemory.{LptMemory}
use Rattle.lpt_c_pair.specs.Histories.{CallDeed, Keeps, Makes, Resets, AreCareful, CanGoOnAll, gone_all, just_begun}
use Rattle.lpt_c_pair.specs.Pairs.{Execute, Fails, Packet, Plain, Read, Resume}
use Rattle.lpt_c_pair.specs.Runs.{Standing, CallTurn, CanStand, standing_begun, stood}
use Rattle.lpt_events.specs.declared.side.Side.TheVariants.{Ground, Craft}
use Rattle.lpt_journal_examples.specs.Passes.{load, load_packet, loaded_memories, usual}
use Rattle.lpt_state.specs.Spellings.{state_spelled}

-- what the spacecraft has of its own: the clock and the limits of the configuration
abbrev pub usual_own : Own
usual_own = record { ticks = 0; limits = limits_of usual }

-- the one memory, its first content, and that with the load
abbrev pub memory : List LptMemory
memory = record { id = 1; at = 0; len = 256 } ∷ []

abbrev pub content : List ℕ
content = replicate 256 0

abbrev pub loaded_content : List ℕ
loaded_content = replicate 16 0 ++ 171 ∷ 205 ∷ 239 ∷ 1 ∷ replicate 236 0

-- Ground asks for a load, and its packet is handed to the spacecraft. That reads requests until a
-- call fails, as there is one alone, executes it, and is restored from its state. The newest stands
-- first; these are the ends that came of it.
abbrev pub calls_made : (asked taken read done again : End) → List CallTurn
calls_made asked taken read done again =
    record {
      side = Craft;
      call = Resume done.config (state_spelled done.node) memory loaded_content;
      new = again;
    }
    ∷ record { side = Craft; call = Execute; new = done }
    ∷ record { side = Craft; call = Fails; new = read }
    ∷ record { side = Craft; call = Read; new = read }
    ∷ record { side = Craft; call = Packet load_packet; new = taken }
    ∷ record { side = Ground; call = Plain 1 0 6 2 load; new = asked }
    ∷ []

-- what its log says, the newest first: ground's request was released, and executed
abbrev pub called_log : Log
called_log =
    Restarted Craft ∷ Left act.Execute ∷ Released None load_packet ∷ Asked load_packet ∷ []

-- The same, if both ends are kept before anything that depends on it is handed over, and the
-- spacecraft's machine is reset when the packet has come once more: that is deleted.
abbrev pub called_and_reset : (asked taken read done more again : End) → List CallDeed
called_and_reset asked taken read done more again =
    Resets Craft done.config (state_spelled done.node) memory loaded_content again
    ∷ Makes (record { side = Craft; call = Packet load_packet; new = more })
    ∷ Keeps Craft
    ∷ Makes (record { side = Craft; call = Execute; new = done })
    ∷ Makes (record { side = Craft; call = Fails; new = read })
    ∷ Makes (record { side = Craft; call = Read; new = read })
    ∷ Makes (record { side = Craft; call = Packet load_packet; new = taken })
    ∷ Keeps Ground
    ∷ Makes (record { side = Ground; call = Plain 1 0 6 2 load; new = asked })
    ∷ []

-- ends that come of both; what was released and executed, and the memory that it leaves; and that
-- the first run is left of the second
pub record CanBeCalled (start : Standing) : Type 0 where
  pub asked : End
  pub taken : End
  pub read : End
  pub done : End
  pub more : End
  pub again : End
  pub can : CanStand usual start (calls_made asked taken read done again)
  pub log : (stood usual start (calls_made asked taken read done again)).pair.ends.log ≡ called_log
  pub memories : (stood usual start (calls_made asked taken read done again)).pair.ends.memories
      ≡ loaded_memories
  pub there : again.memories ≡ Here loaded_memories
  pub careful : AreCareful usual start (just_begun start)
      (called_and_reset asked taken read done more again)
  pub reset : CanGoOnAll usual start (just_begun start)
      (called_and_reset asked taken read done more again)
  pub left : (gone_all (just_begun start)
      (called_and_reset asked taken read done more again)).calls
      ≡ calls_made asked taken read done again

-- whatever two new ends there are
abbrev pub CallsCanBe : Type 0
CallsCanBe =
    (g k : End)
    → IsNew Ground usual [] [] g
    → IsNew Craft usual memory content k
    → CanBeCalled (standing_begun usual (memories_told content memory) 0 usual_own g k)
