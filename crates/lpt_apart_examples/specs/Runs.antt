-- A worked run of two ends apart: the octets, the moves and the log.
use Rattle.std.specs.Prelude.{ℕ, List, [], ◌∷◌, Some, None}
use Rattle.lpt_packet.specs.declared.direction.Direction.TheVariants.{Up, Down}
use Rattle.lpt_events.specs.declared.side.Side.TheVariants.{Craft}
use Rattle.lpt_events.specs.declared.worker.Worker.TheVariants.{W1}
use Rattle.lpt_acts.specs.Acts.{Execute}
use Rattle.lpt_apart.specs.Ends.{Opened, Asked, Released, Left, Retired, Restarted, Log, Move, Do, Free, Open, Send, Plain, Accept, Claim, Commit, Apply, Retire, Restart}
use Rattle.lpt_journal_examples.specs.Passes.{own, m20, m9, load, load_packet}

-- ---- octets

-- the packets of the first and the last part of a message of twenty octets
abbrev pub first_of_long : List ℕ
first_of_long =
    24 ∷ 100 ∷ 192 ∷ 1 ∷ 0 ∷ 18 ∷ 32 ∷ 13 ∷ 9 ∷ 0 ∷ 1 ∷ 0 ∷ 7 ∷ 0 ∷ 1 ∷ 0 ∷ 1 ∷ 2 ∷ 3 ∷ 4 ∷ 5
    ∷ 6 ∷ 7 ∷ 193 ∷ 190 ∷ []

abbrev pub last_of_long : List ℕ
last_of_long =
    24 ∷ 100 ∷ 192 ∷ 3 ∷ 0 ∷ 14 ∷ 32 ∷ 13 ∷ 11 ∷ 0 ∷ 1 ∷ 0 ∷ 7 ∷ 0 ∷ 3 ∷ 16 ∷ 17 ∷ 18 ∷ 19 ∷ 187
    ∷ 191 ∷ []

-- that of its second part, sent again
abbrev pub second_again : List ℕ
second_again =
    24 ∷ 100 ∷ 192 ∷ 4 ∷ 0 ∷ 18 ∷ 32 ∷ 13 ∷ 10 ∷ 0 ∷ 1 ∷ 0 ∷ 7 ∷ 0 ∷ 2 ∷ 8 ∷ 9 ∷ 10 ∷ 11 ∷ 12
    ∷ 13 ∷ 14 ∷ 15 ∷ 74 ∷ 123 ∷ []

-- the packets of the parts of a message of nine octets
abbrev pub first_of_short : List ℕ
first_of_short =
    24 ∷ 100 ∷ 192 ∷ 5 ∷ 0 ∷ 18 ∷ 32 ∷ 13 ∷ 9 ∷ 0 ∷ 1 ∷ 0 ∷ 7 ∷ 0 ∷ 1 ∷ 0 ∷ 1 ∷ 2 ∷ 3 ∷ 4 ∷ 5
    ∷ 6 ∷ 7 ∷ 23 ∷ 114 ∷ []

abbrev pub last_of_short : List ℕ
last_of_short =
    24 ∷ 100 ∷ 192 ∷ 6 ∷ 0 ∷ 11 ∷ 32 ∷ 13 ∷ 11 ∷ 0 ∷ 1 ∷ 0 ∷ 7 ∷ 0 ∷ 2 ∷ 8 ∷ 31 ∷ 130 ∷ []

-- a report that the reception of the name expired, which the spacecraft never made
abbrev pub forged_report : List ℕ
forged_report =
    8 ∷ 100 ∷ 192 ∷ 0 ∷ 0 ∷ 15 ∷ 32 ∷ 13 ∷ 16 ∷ 0 ∷ 0 ∷ 0 ∷ 1 ∷ 0 ∷ 0 ∷ 0 ∷ 0 ∷ 0 ∷ 7 ∷ 1 ∷ 206
    ∷ 236 ∷ []

-- ---- the run

-- the moves, the oldest first
abbrev pub worked_moves : List Move
worked_moves =
    Do (Plain 1 0 6 2 load) ∷ Do (Accept Up load_packet)
    ∷ Do (Claim W1) ∷ Do (Commit W1) ∷ Do (Apply Execute)
    ∷ Do (Accept Up load_packet)
    ∷ Do (Open Up (own 7) m20)
    ∷ Do (Send Up (own 7) 1) ∷ Do (Send Up (own 7) 2) ∷ Do (Send Up (own 7) 3)
    ∷ Do (Accept Up last_of_long) ∷ Do (Accept Up first_of_long) ∷ Do (Accept Up first_of_long)
    ∷ Do (Send Up (own 7) 2) ∷ Do (Accept Up second_again) ∷ Do (Accept Up last_of_long)
    ∷ Do (Accept Down forged_report)
    ∷ Free Up (own 7) ∷ Do (Retire Up (own 7))
    ∷ Do (Open Up (own 7) m9) ∷ Do (Send Up (own 7) 1) ∷ Do (Accept Up first_of_short)
    ∷ Do (Restart Craft)
    ∷ Do (Send Up (own 7) 2) ∷ Do (Accept Up last_of_short) ∷ Do (Accept Up first_of_short) ∷ []

-- its log, the oldest fact first
abbrev pub worked_log : Log
worked_log =
    Asked load_packet ∷ Released None load_packet ∷ Left Execute ∷ Released None load_packet
    ∷ Opened Up (own 7) m20 ∷ Released (Some (Up, own 7)) m20 ∷ Retired Up (own 7)
    ∷ Opened Up (own 7) m9 ∷ Restarted Craft ∷ Released (Some (Up, own 7)) m9 ∷ []
