-- A worked run of two ends, one of which is written, and read back within other limits when its
-- machine was reset.
use Rattle.std.specs.Prelude.{List, [], ◌∷◌, reverse, Some, None}
use Rattle.lpt_packet.specs.declared.direction.Direction.TheVariants.{Up}
use Rattle.lpt_events.specs.declared.config.Config.{Config}
use Rattle.lpt_events.specs.declared.side.Side.TheVariants.{Craft}
use Rattle.lpt_acts.specs.Acts.{On}
use Rattle.lpt_apart.specs.Deeds.{Kept}
use Rattle.lpt_apart.specs.Ends.{Opened, Aborted, Restarted, Log, Do, Move, no_pair, Open, Send, Accept, Tick, Expire}
use Rattle.lpt_apart.specs.Resets.{Deed, Make, Reset, Write, just_written, lived_all}
use Rattle.lpt_journal_examples.specs.Passes.{own, m20, m9, usual, usual_memories}
use Rattle.lpt_apart_examples.specs.Limits.{first_of_seven, first_of_eight}

-- two new ends, of which nothing was written
abbrev pub unwritten : Kept
unwritten = record {
  pair = no_pair usual usual_memories;
  ground_octets = [];
  craft_octets = [];
  memories = usual_memories;
}

-- the configuration in which the spacecraft's end is read back: it has a timeout of two ticks, and
-- room for one reception
abbrev pub narrow_config : Config
narrow_config = record usual { timeout = 2; receptions = 1 }

-- Ground sends a part of each of two messages, while the spacecraft's clock goes on. The state of
-- its end is written. It takes the first part; its machine is reset, which deletes that; and it is
-- read back within those limits. The first part comes again and opens a reception, so that the
-- second has no room; that reception is over two ticks behind, and then the second part comes again
-- and has room. Its reception is given up before its time. The oldest deed stands first.
abbrev pub resumed_deeds : List Deed
resumed_deeds =
    Make (Do (Open Up (own 7) m20)) ∷ Make (Do (Send Up (own 7) 1))
    ∷ Make (Do (Open Up (own 8) m9)) ∷ Make (Do (Send Up (own 8) 1))
    ∷ Make (Do (Tick Craft On))
    ∷ Write Craft ∷ Make (Do (Accept Up first_of_seven)) ∷ Reset Craft narrow_config
    ∷ Make (Do (Accept Up first_of_seven)) ∷ Make (Do (Accept Up first_of_eight))
    ∷ Make (Do (Tick Craft On)) ∷ Make (Do (Tick Craft On)) ∷ Make (Do (Expire Craft None))
    ∷ Make (Do (Accept Up first_of_eight)) ∷ Make (Do (Expire Craft (Some (own 8)))) ∷ []

-- the moves that are left of it, the newest first
abbrev pub moves_left : List Move
moves_left = (lived_all usual (just_written usual unwritten) (reverse resumed_deeds)).moves

-- their log, the oldest fact first
abbrev pub resumed_log : Log
resumed_log =
    Opened Up (own 7) m20 ∷ Opened Up (own 8) m9 ∷ Restarted Craft
    ∷ Aborted Up (own 7) ∷ Aborted Up (own 8) ∷ []
