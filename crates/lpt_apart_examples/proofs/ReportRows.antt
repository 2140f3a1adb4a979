-- The run in which a report goes down in parts, computed by the definitions.
use Rattle.std.proofs.Common.{◌≡◌, ◌∙◌, ap, sym, subst, refl, List, [], ◌∷◌, reverse}
use Rattle.lpt_packet.specs.Checksums.{checksum, octets_in, shift_all}
use Rattle.lpt_packet.specs.Packets.{packet_seen, spelling}
use Rattle.lpt_packet.specs.declared.direction.Direction.TheVariants.{Down}
use Rattle.lpt_pus.specs.Commands.{tc_field, tc_verdict, command_in}
use Rattle.lpt_pus.specs.Telemetry.{tm_field, tm_verdict}
use Rattle.lpt_part.specs.Parts.{body_of, part_verdict}
use Rattle.lpt_ledger.specs.LeastFree.{first_of_numbers}
use Rattle.lpt_memory.specs.Meanings.{body_meaning, meaning}
use Rattle.lpt_memory.specs.Requests.{front_range, front_head, request_in}
use Rattle.lpt_events.specs.Arrivals.{arrival}
use Rattle.lpt_events.specs.declared.lane.Lane.TheVariants.{S1, G1}
use Rattle.lpt_events.specs.declared.worker.Worker.TheVariants.{W1}
use Rattle.lpt_acts.specs.Acts.{Execute, Act, Send, Plain, Take, Deliver, Claim, Commit, Apply}
use Rattle.lpt_journal.specs.Replies.{history_after}
use Rattle.lpt_apart.specs.Ends.{Ends, Move}
use Rattle.lpt_apart.specs.Moves.{came_to, CanMoveAll}
use Rattle.lpt_apart.specs.Plays.{AllForward, steps_of, moves_of}
use Rattle.lpt_apart.specs.Told.{log_told}
use Rattle.lpt_apart.proofs.Freely.{steps_are_moves}
use Rattle.lpt_apart.proofs.Played.{worlds_are_ends}
use Rattle.lpt_journal_examples.specs.Passes.{IsPass, usual, usual_memories, dump, own}
use Rattle.lpt_journal_examples.proofs.LegalRows.{usual_pass}
use Rattle.lpt_apart_examples.specs.Reports.{report_moves, report_log}
use Rattle.lpt_apart_examples.proofs.ListedSteps.{all_are_forward, steps_is, told_of}

-- a world that does the same
abbrev journal : List Act
journal =
    Plain 1 0 6 5 (dump 3) ∷ Take S1 0 ∷ Deliver S1
    ∷ Claim W1 ∷ Commit W1 ∷ Apply Execute
    ∷ Send Down (own 0) 1 ∷ Send Down (own 0) 2 ∷ Send Down (own 0) 3 ∷ Send Down (own 0) 4
    ∷ Take G1 1 ∷ Deliver G1 ∷ Take G1 2 ∷ Deliver G1 ∷ Take G1 2 ∷ Deliver G1
    ∷ Take G1 4 ∷ Deliver G1 ∷ Take G1 3 ∷ Deliver G1 ∷ []

-- none of its acts is refused
pub passes : IsPass usual journal
unfolding packet_seen spelling checksum octets_in shift_all tc_field tc_verdict command_in tm_field
    tm_verdict body_of part_verdict first_of_numbers front_range front_head request_in body_meaning
    meaning arrival
passes = usual_pass journal refl

forward : AllForward (reverse journal)
forward = all_are_forward (reverse journal) refl

-- its moves, and its log
the_moves : moves_of (steps_of usual usual_memories (reverse journal)) ≡ reverse report_moves
unfolding packet_seen spelling checksum octets_in shift_all tc_field tc_verdict command_in tm_field
    tm_verdict body_of part_verdict first_of_numbers front_range front_head request_in body_meaning
    meaning arrival
the_moves = ap moves_of (steps_is usual (reverse journal))

logged : log_told usual (history_after usual usual_memories (reverse journal)) ≡ reverse report_log
unfolding packet_seen spelling checksum octets_in shift_all tc_field tc_verdict command_in tm_field
    tm_verdict body_of part_verdict first_of_numbers front_range front_head request_in body_meaning
    meaning arrival
logged = told_of usual (reverse journal)

-- the run can be, and comes to the ends of that world
pub record IsReported : Type 0 where
  pub can : CanMoveAll usual usual_memories (reverse report_moves)
  pub log : (came_to usual usual_memories (reverse report_moves)).ends.log ≡ reverse report_log

pub runs : IsReported
runs =
    let es : List Act = reverse journal in
    let world = worlds_are_ends usual usual_memories es passes.configured forward passes.legal in
    let moves = steps_are_moves usual usual_memories (steps_of usual usual_memories es) world.can in
    record {
      can = subst (λ (ms : List Move). CanMoveAll usual usual_memories ms) the_moves moves.can;
      log =
          ap (λ (ms : List Move). (came_to usual usual_memories ms).ends.log) (sym the_moves)
          ∙ ap (λ (e : Ends). e.log) moves.ends ∙ sym world.are.log ∙ logged;
    }
