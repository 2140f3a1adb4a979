-- A worked run of two ends: a report that is too long for a packet goes down in parts.
use Rattle.std.specs.Prelude.{ℕ, List, [], ◌∷◌, Some, None}
use Rattle.lpt_packet.specs.declared.direction.Direction.TheVariants.{Up, Down}
use Rattle.lpt_events.specs.declared.worker.Worker.TheVariants.{W1}
use Rattle.lpt_acts.specs.Acts.{Execute}
use Rattle.lpt_apart.specs.Ends.{Opened, Asked, Released, Left, Log, Move, Do, Send, Plain, Accept, Claim, Commit, Apply}
use Rattle.lpt_journal_examples.specs.Passes.{own, dump, dump_packet, report_packet}

-- ---- octets

-- the packets of the report's four parts
abbrev pub first_part : List ℕ
first_part =
    8 ∷ 100 ∷ 192 ∷ 1 ∷ 0 ∷ 24 ∷ 32 ∷ 13 ∷ 1 ∷ 0 ∷ 0 ∷ 0 ∷ 1 ∷ 0 ∷ 0 ∷ 0 ∷ 0 ∷ 0 ∷ 0 ∷ 0 ∷ 1
    ∷ 8 ∷ 100 ∷ 192 ∷ 0 ∷ 0 ∷ 25 ∷ 32 ∷ 6 ∷ 4 ∷ 173 ∷ []

abbrev pub second_part : List ℕ
second_part =
    8 ∷ 100 ∷ 192 ∷ 2 ∷ 0 ∷ 24 ∷ 32 ∷ 13 ∷ 2 ∷ 0 ∷ 0 ∷ 0 ∷ 1 ∷ 0 ∷ 0 ∷ 0 ∷ 0 ∷ 0 ∷ 0 ∷ 0 ∷ 2
    ∷ 6 ∷ 0 ∷ 0 ∷ 0 ∷ 1 ∷ 0 ∷ 0 ∷ 0 ∷ 60 ∷ 203 ∷ []

abbrev pub third_part : List ℕ
third_part =
    8 ∷ 100 ∷ 192 ∷ 3 ∷ 0 ∷ 24 ∷ 32 ∷ 13 ∷ 2 ∷ 0 ∷ 1 ∷ 0 ∷ 1 ∷ 0 ∷ 0 ∷ 0 ∷ 0 ∷ 0 ∷ 0 ∷ 0 ∷ 3
    ∷ 0 ∷ 1 ∷ 1 ∷ 0 ∷ 0 ∷ 0 ∷ 16 ∷ 0 ∷ 173 ∷ 91 ∷ []

abbrev pub fourth_part : List ℕ
fourth_part =
    8 ∷ 100 ∷ 192 ∷ 4 ∷ 0 ∷ 24 ∷ 32 ∷ 13 ∷ 3 ∷ 0 ∷ 0 ∷ 0 ∷ 1 ∷ 0 ∷ 0 ∷ 0 ∷ 0 ∷ 0 ∷ 0 ∷ 0 ∷ 4
    ∷ 3 ∷ 0 ∷ 0 ∷ 0 ∷ 204 ∷ 156 ∷ 201 ∷ 221 ∷ 19 ∷ 72 ∷ []

-- ---- the run

-- Ground asks for a dump of three octets. The spacecraft executes it; its report has 32 octets, so
-- it is opened and goes down in four parts. The second of them comes twice, and the last one comes
-- before the third. The oldest move stands first.
abbrev pub report_moves : List Move
report_moves =
    Do (Plain 1 0 6 5 (dump 3)) ∷ Do (Accept Up dump_packet)
    ∷ Do (Claim W1) ∷ Do (Commit W1) ∷ Do (Apply Execute)
    ∷ Do (Send Down (own 0) 1) ∷ Do (Send Down (own 0) 2)
    ∷ Do (Send Down (own 0) 3) ∷ Do (Send Down (own 0) 4)
    ∷ Do (Accept Down first_part) ∷ Do (Accept Down second_part) ∷ Do (Accept Down second_part)
    ∷ Do (Accept Down fourth_part) ∷ Do (Accept Down third_part) ∷ []

-- its log, the oldest fact first: ground's node releases the report, octet by octet
abbrev pub report_log : Log
report_log =
    Asked dump_packet ∷ Released None dump_packet ∷ Opened Down (own 0) report_packet ∷ Left Execute
    ∷ Released (Some (Down, own 0)) report_packet ∷ []
