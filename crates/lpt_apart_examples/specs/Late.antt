-- A worked run of two ends that free a name by lines, some of which are heard again, and late.
use Rattle.std.specs.Prelude.{◌≡◌, ℕ, true, List, [], ◌∷◌}
use Rattle.lpt_packet.specs.declared.direction.Direction.TheVariants.{Up}
use Rattle.lpt_events.specs.declared.side.Side.TheVariants.{Ground}
use Rattle.lpt_node.specs.Sending.{part_sent}
use Rattle.lpt_acts.specs.Acts.{limits_of}
use Rattle.lpt_apart.specs.Ends.{after_all, Move, Pair, Do, Free, Open, Send, Accept, Retire, Restart}
use Rattle.lpt_apart.specs.TwoEnds.{no_pair_later, CanMove}
use Rattle.lpt_apart.specs.Freeing.{Act, Hears, Makes, Says, Sends, part_line}
use Rattle.lpt_apart.specs.Lines.{Finished, Freed, is_unheard, Line}
use Rattle.lpt_journal_examples.specs.Passes.{own, m20, m9, usual, usual_memories}

-- two new ends
abbrev pub start : Pair
start = no_pair_later usual usual_memories 0 (record { ticks = 0; limits = limits_of usual })

-- ---- what is made

-- the moves before a part is sent: of the first message under a name, and of the second. The newest
-- stands first
abbrev pub before_first : List Move
before_first = Do (Open Up (own 7) m20) ∷ []

abbrev pub before_second : List Move
before_second =
    Do (Open Up (own 7) m9) ∷ Do (Retire Up (own 7)) ∷ Free Up (own 7) ∷ Do (Restart Ground)
    ∷ Do (Send Up (own 7) 1) ∷ before_first

-- the lines of these parts
abbrev pub first_part : Line
first_part = part_line usual (after_all usual start before_first) before_first Up (own 7) 1

abbrev pub second_part : Line
second_part = part_line usual (after_all usual start before_second) before_second Up (own 7) 1

-- the octets of the second
abbrev pub second_octets : List ℕ
second_octets =
    (part_sent Ground usual (after_all usual start before_second).ends.on_ground (own 7) 1).1

-- ---- the run

-- the acts, the oldest first: the first part is late, and each line that frees the name is heard
-- again at once, and again once its next message is open
abbrev pub late_acts : List Act
late_acts =
    Makes (Open Up (own 7) m20) ∷ Sends Up (own 7) 1 ∷ Makes (Restart Ground)
    ∷ Says (Finished Up (own 7) 0) ∷ Hears (Finished Up (own 7) 0) ∷ Hears (Finished Up (own 7) 0)
    ∷ Says (Freed Up (own 7) 0) ∷ Hears (Freed Up (own 7) 0) ∷ Hears (Freed Up (own 7) 0)
    ∷ Makes (Open Up (own 7) m9) ∷ Sends Up (own 7) 1
    ∷ Hears first_part ∷ Hears (Finished Up (own 7) 0) ∷ Hears (Freed Up (own 7) 0)
    ∷ Hears second_part ∷ []

-- the moves before its late lines are heard
abbrev pub before_late : List Move
before_late = Do (Send Up (own 7) 1) ∷ before_second

-- the moves that come of it, the newest first: the name is freed once at each end, and the part of
-- its second message alone is handed over
abbrev pub late_moves : List Move
late_moves = Do (Accept Up second_octets) ∷ before_late

-- ---- without turns

-- A receiver that didn't look at the turn of a line would free the name by the late one, since no
-- reception of it is open; but that may not be, since its sender isn't closed.
pub record FreesTooEarly (xs : List Move) : Type 0 where
  pub would : is_unheard (after_all usual start xs).ends Up (own 7) ≡ true
  pub may_not : CanMove usual (after_all usual start xs) (Free Up (own 7)) → ⊥
