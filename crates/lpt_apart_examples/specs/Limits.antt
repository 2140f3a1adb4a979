-- A worked run of two ends, one of which sets its clock back, has other limits from then on, and
-- gives a reception up before its time.
use Rattle.std.specs.Prelude.{ℕ, List, [], ◌∷◌, Some}
use Rattle.lpt_packet.specs.declared.direction.Direction.TheVariants.{Up}
use Rattle.lpt_events.specs.declared.side.Side.TheVariants.{Craft}
use Rattle.lpt_acts.specs.Acts.{Limits, On, Back, Within}
use Rattle.lpt_apart.specs.Ends.{Opened, Aborted, Log, Move, Do, Open, Send, Accept, Tick, Expire}
use Rattle.lpt_journal_examples.specs.Passes.{own, m20, m9}

-- a timeout of two ticks, and room for one reception
abbrev pub narrow : Limits
narrow = record { timeout = 2; receptions = 1; outgoing = 8 }

-- the packets of the first parts of a message of twenty octets and of one of nine
abbrev pub first_of_seven : List ℕ
first_of_seven =
    24 ∷ 100 ∷ 192 ∷ 0 ∷ 0 ∷ 18 ∷ 32 ∷ 13 ∷ 9 ∷ 0 ∷ 1 ∷ 0 ∷ 7 ∷ 0 ∷ 1 ∷ 0 ∷ 1 ∷ 2 ∷ 3 ∷ 4 ∷ 5
    ∷ 6 ∷ 7 ∷ 244 ∷ 13 ∷ []

abbrev pub first_of_eight : List ℕ
first_of_eight =
    24 ∷ 100 ∷ 192 ∷ 1 ∷ 0 ∷ 18 ∷ 32 ∷ 13 ∷ 9 ∷ 0 ∷ 1 ∷ 0 ∷ 8 ∷ 0 ∷ 1 ∷ 0 ∷ 1 ∷ 2 ∷ 3 ∷ 4 ∷ 5
    ∷ 6 ∷ 7 ∷ 74 ∷ 141 ∷ []

-- the moves of the clock, the oldest first
abbrev pub clock_moves : List Move
clock_moves = Do (Tick Craft On) ∷ Do (Tick Craft (Back 1)) ∷ []

-- those behind them: a part of the second message has no room, until the first one's reception is
-- given up
abbrev pub narrow_moves : List Move
narrow_moves =
    Do (Tick Craft (Within narrow))
    ∷ Do (Open Up (own 7) m20) ∷ Do (Send Up (own 7) 1) ∷ Do (Accept Up first_of_seven)
    ∷ Do (Open Up (own 8) m9) ∷ Do (Send Up (own 8) 1) ∷ Do (Accept Up first_of_eight)
    ∷ Do (Expire Craft (Some (own 7)))
    ∷ Do (Accept Up first_of_eight) ∷ Do (Expire Craft (Some (own 8))) ∷ []

-- the log of all of them, the oldest fact first
abbrev pub narrow_log : Log
narrow_log =
    Opened Up (own 7) m20 ∷ Opened Up (own 8) m9 ∷ Aborted Up (own 7) ∷ Aborted Up (own 8) ∷ []
