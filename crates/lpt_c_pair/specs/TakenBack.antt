-- A worked run of two ends behind handles, whose spacecraft's program has the memories, drops a
-- request for which it had written, and is reset.
use Rattle.std.specs.Prelude.{◌≡◌, List, [], ◌∷◌, None}
use Rattle.lpt_acts.specs.Acts as act
use Rattle.lpt_apart.specs.Ends.{Asked, Left, Log, Released, Restarted}
use Rattle.lpt_apart.specs.TwoEnds.{requests_executed}
use Rattle.lpt_c_pair.specs.Called.{usual_own}
use Rattle.lpt_c_end.specs.Changes.{IsNew}
use Rattle.lpt_c_end.specs.Sizes.{IsNewSized}
use Rattle.lpt_c_end.specs.declared.end.End.{End}
use Rattle.lpt_c_pair.specs.Pairs.{DropRead, Packet, Plain, Read}
use Rattle.lpt_c_pair.specs.Programs.{Calls, CanActAll, Gives, Program, Puts, Settles, TakesBack, Writes, came_by, program_started}
use Rattle.lpt_c_pair.specs.Resets.{ActDeed, CanLiveAll, Does, Keeps, ResetsCraft, just_begun, lived_all}
use Rattle.lpt_c_pair.specs.Worked.{load_told, sizes, torn}
use Rattle.lpt_events.specs.declared.side.Side.TheVariants.{Ground, Craft}
use Rattle.lpt_journal_examples.specs.Passes.{load, load_packet, loaded_memories, usual, usual_memories}
use Rattle.lpt_state.specs.Spellings.{state_spelled}

-- Ground asks for a load, whose packet is handed over twice. The program reads the request that
-- comes first, writes the load, puts back what stood there, and drops the request. It reads the
-- second, executes it with its write owed, and keeps its end. In the middle of the write its
-- machine is reset; its end is made again, and the write is made again. The newest stands first;
-- these are the ends that came of it.
abbrev pub taken_back : (asked taken read let_go again read_again given resumed : End)
    → List ActDeed
taken_back asked taken read let_go again read_again given resumed =
    Does Settles
    ∷ ResetsCraft given.config (state_spelled given.node) sizes torn resumed
    ∷ Does (Puts torn)
    ∷ Keeps Craft
    ∷ Does (Gives [] (load_told ∷ []) given)
    ∷ Does (Calls (record { side = Craft; call = Read; new = read_again }))
    ∷ Does (Calls (record { side = Craft; call = Packet load_packet; new = again }))
    ∷ Does (Calls (record { side = Craft; call = DropRead; new = let_go }))
    ∷ Does TakesBack
    ∷ Does (Writes load_told)
    ∷ Does (Calls (record { side = Craft; call = Read; new = read }))
    ∷ Does (Calls (record { side = Craft; call = Packet load_packet; new = taken }))
    ∷ Does (Calls (record { side = Ground; call = Plain 1 0 6 2 load; new = asked }))
    ∷ []

-- what is left of all that was done
abbrev pub left_of : (start : Program) → List ActDeed → Program
left_of start xs = came_by usual start (lived_all usual start (just_begun start) xs).acts

-- its log, the newest first
abbrev pub taken_back_log : Log
taken_back_log =
    Restarted Craft ∷ Left act.Execute ∷ Released None load_packet ∷ Left act.Drop
    ∷ Released None load_packet ∷ Asked load_packet ∷ []

-- ends that come of it; what is left of all that was done can be done, what was executed in it, and
-- the memories that the machine has
pub record CanBeTakenBack (start : Program) : Type 0 where
  pub asked : End
  pub taken : End
  pub read : End
  pub let_go : End
  pub again : End
  pub read_again : End
  pub given : End
  pub resumed : End
  pub can : CanLiveAll usual start (just_begun start)
      (taken_back asked taken read let_go again read_again given resumed)
  pub kept : CanActAll usual start (lived_all usual start (just_begun start)
      (taken_back asked taken read let_go again read_again given resumed)).acts
  pub log : (left_of start
      (taken_back asked taken read let_go again read_again given resumed)).ends.pair.ends.log
      ≡ taken_back_log
  pub executed : requests_executed taken_back_log ≡ load_packet ∷ []
  pub left : (lived_all usual start (just_begun start)
      (taken_back asked taken read let_go again read_again given resumed)).machines.memories
      ≡ loaded_memories

-- whatever two new ends there are
abbrev pub WrittenCanBeTakenBack : Type 0
WrittenCanBeTakenBack =
    (g k : End)
    → IsNew Ground usual [] [] g
    → IsNewSized usual sizes k
    → CanBeTakenBack (program_started usual usual_memories 0 usual_own g k)
