-- A worked run of two ends apart, with no handles: each is written, and the spacecraft's machine is
-- reset.
use Rattle.std.specs.Prelude.{◌≡◌, List, [], ◌∷◌}
use Rattle.lpt_acts.specs.Acts.{Execute}
use Rattle.lpt_apart.specs.Ends.{after_all, Do, Move, Pair, Accept, Apply, Claim, Commit, Plain}
use Rattle.lpt_apart.specs.TwoEnds.{no_pair_later}
use Rattle.lpt_apart.specs.Deeds.{Kept, with_restart}
use Rattle.lpt_apart.specs.Resets.{CanLiveAll, Deed, Make, Reset, Write, just_written, lived_all}
use Rattle.lpt_c_pair.specs.Called.{called_log, usual_own}
use Rattle.lpt_events.specs.declared.side.Side.TheVariants.{Ground, Craft}
use Rattle.lpt_events.specs.declared.worker.Worker.TheVariants.{W1}
use Rattle.lpt_journal_examples.specs.Passes.{load, load_packet, loaded_memories, usual, usual_memories}
use Rattle.lpt_packet.specs.declared.direction.Direction.TheVariants.{Up}

-- two new ends, of which nothing was written
abbrev pub new_pair : Pair
new_pair = no_pair_later usual usual_memories 0 usual_own

abbrev pub unwritten : Kept
unwritten = record {
  pair = new_pair;
  ground_octets = [];
  craft_octets = [];
  memories = usual_memories;
}

-- ground asks for a load; the spacecraft takes its packet, reads it and executes it; the newest
-- stands first
abbrev pub moves : List Move
moves =
    Do (Apply Execute)
    ∷ Do (Commit W1)
    ∷ Do (Claim W1)
    ∷ Do (Accept Up load_packet)
    ∷ Do (Plain 1 0 6 2 load)
    ∷ []

-- the same, but that both are written in time, and the spacecraft's machine is reset when the
-- packet has come once more: that is deleted
abbrev pub lives : List Deed
lives =
    Reset Craft usual
    ∷ Make (Do (Accept Up load_packet))
    ∷ Write Craft
    ∷ Make (Do (Apply Execute))
    ∷ Make (Do (Commit W1))
    ∷ Make (Do (Claim W1))
    ∷ Make (Do (Accept Up load_packet))
    ∷ Write Ground
    ∷ Make (Do (Plain 1 0 6 2 load))
    ∷ []

-- it can be done; what is left of it are the moves and a start; and what they come to
pub record NodesCanBe : Type 0 where
  pub reset : CanLiveAll usual new_pair (just_written usual unwritten) lives
  pub left : (lived_all usual (just_written usual unwritten) lives).moves
      ≡ with_restart usual Craft moves
  pub log : (after_all usual new_pair (with_restart usual Craft moves)).ends.log ≡ called_log
  pub memories : (after_all usual new_pair (with_restart usual Craft moves)).ends.memories
      ≡ loaded_memories
