-- A worked run of two ends behind handles, whose spacecraft's program drops a request and refuses
-- one.
use Rattle.std.specs.Prelude.{◌≡◌, List, [], ◌∷◌, length, None}
use Rattle.lpt_acts.specs.Acts as act
use Rattle.lpt_apart.specs.Ends.{Asked, Left, Log, Released}
use Rattle.lpt_c_end.specs.Changes.{IsNew}
use Rattle.lpt_c_end.specs.Contents.{memories_told}
use Rattle.lpt_c_end.specs.declared.end.End.{End}
use Rattle.lpt_c_pair.specs.Pairs.{Drop, Packet, Plain, Read, Refuse}
use Rattle.lpt_c_pair.specs.Runs.{CallTurn, CanStand, Standing, standing_begun, stood}
use Rattle.lpt_c_pair.specs.Called.{content, memory, usual_own}
use Rattle.lpt_events.specs.declared.side.Side.TheVariants.{Ground, Craft}
use Rattle.lpt_journal_examples.specs.Passes.{load, load_packet, usual, usual_memories}
use Rattle.lpt_pus.specs.declared.failure_code.FailureCode.TheVariants.{OutOfRange}

-- Ground asks for a load, whose packet is handed over twice. The program drops the request that
-- comes first; it reads the second, and refuses it. The newest stands first; these are the ends
-- that came of it.
abbrev pub none_executed : (asked taken dropped again read refused : End) → List CallTurn
none_executed asked taken dropped again read refused =
    record { side = Craft; call = Refuse OutOfRange; new = refused }
    ∷ record { side = Craft; call = Read; new = read }
    ∷ record { side = Craft; call = Packet load_packet; new = again }
    ∷ record { side = Craft; call = Drop; new = dropped }
    ∷ record { side = Craft; call = Packet load_packet; new = taken }
    ∷ record { side = Ground; call = Plain 1 0 6 2 load; new = asked }
    ∷ []

-- what its log says, the newest first
abbrev pub leaving_log : Log
leaving_log =
    Left (act.Refuse OutOfRange) ∷ Released None load_packet ∷ Left act.Drop
    ∷ Released None load_packet ∷ Asked load_packet ∷ []

-- ends that come of it: the memory is as it was, the drop made no report, and the refusal made one
pub record CanLeave (start : Standing) : Type 0 where
  pub asked : End
  pub taken : End
  pub dropped : End
  pub again : End
  pub read : End
  pub refused : End
  pub can : CanStand usual start (none_executed asked taken dropped again read refused)
  pub log : (stood usual start
      (none_executed asked taken dropped again read refused)).pair.ends.log ≡ leaving_log
  pub memories : (stood usual start
      (none_executed asked taken dropped again read refused)).pair.ends.memories ≡ usual_memories
  pub silent : dropped.outbox.items ≡ []
  pub reported : length refused.outbox.items ≡ 1

-- whatever two new ends there are
abbrev pub LeavingsCanBe : Type 0
LeavingsCanBe =
    (g k : End)
    → IsNew Ground usual [] [] g
    → IsNew Craft usual memory content k
    → CanLeave (standing_begun usual (memories_told content memory) 0 usual_own g k)
