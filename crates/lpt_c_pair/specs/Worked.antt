-- A worked run of two ends behind handles, when the spacecraft's program has the memories.
use Rattle.std.specs.Prelude.{◌≡◌, List, [], ◌∷◌, ◌++◌, replicate}
use Rattle.lpt_c_end.specs.Changes.{IsNew}
use Rattle.lpt_c_end.specs.Sizes.{IsNewSized}
use Rattle.lpt_c_end.specs.declared.end.End.{End}
use Rattle.lpt_c_end.specs.declared.sizing.LptSize.{LptSize}
use Rattle.lpt_c_pair.specs.Pairs.{Packet, Plain, Read, ResumeSized}
use Rattle.lpt_c_pair.specs.Programs.{Act, Calls, Gives, Program, Puts, Settles, ToldWrite, Writes, CanActAll, came_by, program_started}
use Rattle.lpt_c_pair.specs.Resets.{ActDeed, Does, Keeps, ResetsCraft, AreCareful, CanLiveAll, just_begun, lived_all}
use Rattle.lpt_c_pair.specs.Runs.{CanStand}
use Rattle.lpt_c_pair.specs.Withheld.{turns_of}
use Rattle.lpt_c_pair.specs.Called.{called_log, usual_own}
use Rattle.lpt_events.specs.declared.side.Side.TheVariants.{Ground, Craft}
use Rattle.lpt_journal_examples.specs.Passes.{load, load_packet, loaded_memories, usual, usual_memories}
use Rattle.lpt_memory.specs.Memories.{Contents}
use Rattle.lpt_state.specs.Spellings.{state_spelled}

-- the size of the one memory
abbrev pub sizes : List LptSize
sizes = record { id = 1; len = 256 } ∷ []

-- the one write that the load asks for, as C is told it
abbrev pub load_told : ToldWrite
load_told = record {
  access = record { memory = 1; write = 1; address = 16; len = 4 };
  octets = 171 ∷ 205 ∷ 239 ∷ 1 ∷ [];
}

-- Ground asks for a load, and its packet is handed to the spacecraft. That reads the request and
-- executes it, with its write owed; writes it; and is restored from its state. The newest stands
-- first; these are the ends that came of it.
abbrev pub worked_acts : (asked taken read given again : End) → List Act
worked_acts asked taken read given again =
    Calls (record {
      side = Craft;
      call = ResumeSized given.config (state_spelled given.node) sizes;
      new = again;
    })
    ∷ Settles
    ∷ Gives [] (load_told ∷ []) given
    ∷ Calls (record { side = Craft; call = Read; new = read })
    ∷ Calls (record { side = Craft; call = Packet load_packet; new = taken })
    ∷ Calls (record { side = Ground; call = Plain 1 0 6 2 load; new = asked })
    ∷ []

-- ends that come of it; what was released and executed, and the memories that it leaves; and that
-- these calls can be made of two ends
pub record CanBe (start : Program) : Type 0 where
  pub asked : End
  pub taken : End
  pub read : End
  pub given : End
  pub again : End
  pub can : CanActAll usual start (worked_acts asked taken read given again)
  pub log : (came_by usual start (worked_acts asked taken read given again)).ends.pair.ends.log
      ≡ called_log
  pub left : (came_by usual start (worked_acts asked taken read given again)).memories
      ≡ loaded_memories
  pub stands : CanStand usual start.ends (turns_of (worked_acts asked taken read given again))

-- whatever two new ends there are
abbrev pub WorkedCanBe : Type 0
WorkedCanBe =
    (g k : End)
    → IsNew Ground usual [] [] g
    → IsNewSized usual sizes k
    → CanBe (program_started usual usual_memories 0 usual_own g k)

-- ---- a reset

-- the memory once half of the load was written
abbrev pub torn : Contents
torn = (1, replicate 16 0 ++ 171 ∷ 205 ∷ replicate 238 0) ∷ []

-- The same, but that ground's end is kept before its packet is handed over, and the spacecraft's
-- behind the execution, with the write that is owed; the machine is reset in the middle of that
-- write; and once the end was restored from what was kept, the write is made again. The newest
-- stands first.
abbrev pub torn_and_redone : (asked taken read given again : End) → List ActDeed
torn_and_redone asked taken read given again =
    Does Settles
    ∷ ResetsCraft given.config (state_spelled given.node) sizes torn again
    ∷ Does (Puts torn)
    ∷ Keeps Craft
    ∷ Does (Gives [] (load_told ∷ []) given)
    ∷ Does (Calls (record { side = Craft; call = Read; new = read }))
    ∷ Does (Calls (record { side = Craft; call = Packet load_packet; new = taken }))
    ∷ Keeps Ground
    ∷ Does (Calls (record { side = Ground; call = Plain 1 0 6 2 load; new = asked }))
    ∷ []

-- ends that come of it, and the memories that it leaves; nothing was handed over before it was kept
pub record CanBeRedone (start : Program) : Type 0 where
  pub asked : End
  pub taken : End
  pub read : End
  pub given : End
  pub again : End
  pub careful : AreCareful usual start (just_begun start)
      (torn_and_redone asked taken read given again)
  pub can : CanLiveAll usual start (just_begun start)
      (torn_and_redone asked taken read given again)
  pub left : (lived_all usual start (just_begun start)
      (torn_and_redone asked taken read given again)).machines.memories ≡ loaded_memories

-- whatever two new ends there are
abbrev pub TornCanBeRedone : Type 0
TornCanBeRedone =
    (g k : End)
    → IsNew Ground usual [] [] g
    → IsNewSized usual sizes k
    → CanBeRedone (program_started usual usual_memories 0 usual_own g k)

-- The end is kept before the load is written; the machine is reset once it is written and before
-- the request is executed; what stood there is put back; and the end is made again. The newest
-- stands first.
abbrev pub written_and_put_back : (asked taken read again : End) → List ActDeed
written_and_put_back asked taken read again =
    ResetsCraft read.config (state_spelled read.node) sizes usual_memories again
    ∷ Does (Writes load_told)
    ∷ Keeps Craft
    ∷ Does (Calls (record { side = Craft; call = Read; new = read }))
    ∷ Does (Calls (record { side = Craft; call = Packet load_packet; new = taken }))
    ∷ Does (Calls (record { side = Ground; call = Plain 1 0 6 2 load; new = asked }))
    ∷ []

-- ends that come of it
pub record CanBePutBack (start : Program) : Type 0 where
  pub asked : End
  pub taken : End
  pub read : End
  pub again : End
  pub can : CanLiveAll usual start (just_begun start)
      (written_and_put_back asked taken read again)

-- whatever two new ends there are
abbrev pub WrittenCanBePutBack : Type 0
WrittenCanBePutBack =
    (g k : End)
    → IsNew Ground usual [] [] g
    → IsNewSized usual sizes k
    → CanBePutBack (program_started usual usual_memories 0 usual_own g k)
