-- The worked run, computed by the definitions.
use Rattle.std.proofs.Common.{◌≡◌, ◌∙◌, ap, sym, subst, refl, ℕ, zero, suc, Bool, true, arith, List, [], ◌∷◌, ◌++◌, drop, take, reverse}
use Rattle.lpt_packet.specs.declared.direction.Direction.TheVariants.{Up, Down}
use Rattle.lpt_packet.specs.Checksums.{checksum, octets_in, shift_all}
use Rattle.lpt_packet.specs.Packets.{packet_seen, spelling}
use Rattle.lpt_pus.specs.Commands.{tc_field, tc_verdict, command_in}
use Rattle.lpt_pus.specs.Telemetry.{tm_field, tm_verdict}
use Rattle.lpt_part.specs.Aborts.{abort_body, abort_verdict}
use Rattle.lpt_part.specs.Parts.{body_of, part_verdict}
use Rattle.lpt_part.specs.declared.reason.Reason.TheVariants.{Expired}
use Rattle.lpt_memory.specs.Meanings.{body_meaning, meaning}
use Rattle.lpt_memory.specs.Requests.{front_load_area, front_head, request_in}
use Rattle.lpt_ledger.specs.LeastFree.{first_of_numbers}
use Rattle.lpt_events.specs.Arrivals.{AnAbort, arrival, arrival_in}
use Rattle.lpt_acts.specs.Acts.{Execute, Act, Open, Send, Plain, Finish, Lose, Take, Deliver, Claim, Commit, Apply, Retire, Restart}
use Rattle.lpt_events.specs.declared.lane.Lane.TheVariants.{S1}
use Rattle.lpt_events.specs.declared.side.Side.TheVariants.{Craft}
use Rattle.lpt_events.specs.declared.worker.Worker.TheVariants.{W1}
use Rattle.lpt_journal.specs.Jobs.{memories}
use Rattle.lpt_journal.specs.Replies.{history_after}
use Rattle.lpt_journal.specs.Whole as whole
use Rattle.lpt_apart.specs.Ends.{Ends, Pair, Move, Do}
use Rattle.lpt_apart.specs.TwoEnds.{CameWhole}
use Rattle.lpt_apart.specs.Moves.{came_to, CanMoveAll}
use Rattle.lpt_apart.specs.Whole.{came_in}
use Rattle.lpt_apart.specs.Plays.{AllForward, steps_of, moves_of}
use Rattle.lpt_apart.specs.Ends as steps
use Rattle.lpt_apart.specs.Told.{log_told}
use Rattle.lpt_apart.proofs.Bringing.{moves_bring_the_same, worlds_bring_the_same}
use Rattle.lpt_apart.proofs.Freely.{steps_are_moves}
use Rattle.lpt_apart.proofs.Played.{worlds_are_ends}
use Rattle.lpt_journal_examples.specs.Passes.{IsPass, usual, usual_memories, loaded_memories, load, m20, m9, own}
use Rattle.lpt_journal_examples.proofs.LegalRows.{usual_pass}
use Rattle.lpt_journal_examples.proofs.Listed.{recorded_is}
use Rattle.lpt_apart_examples.specs.Runs.{forged_report, worked_moves, worked_log}
use Rattle.lpt_apart_examples.proofs.ListedSteps.{all_are_forward, steps_is, told_of}
use Rattle.lpt_apart_examples.proofs.Swapped.{swapped, swapped_came}

-- ---- a world that does the same, but that the message is finished

abbrev journal : List Act
journal =
    Plain 1 0 6 2 load ∷ Take S1 0 ∷ Deliver S1 ∷ Claim W1 ∷ Commit W1 ∷ Apply Execute
    ∷ Take S1 0 ∷ Deliver S1
    ∷ Open Up (own 7) m20 ∷ Send Up (own 7) 1 ∷ Send Up (own 7) 2 ∷ Send Up (own 7) 3
    ∷ Take S1 3 ∷ Deliver S1 ∷ Take S1 1 ∷ Deliver S1 ∷ Take S1 1 ∷ Deliver S1
    ∷ Send Up (own 7) 2 ∷ Take S1 4 ∷ Deliver S1 ∷ Take S1 3 ∷ Deliver S1
    ∷ Finish Up (own 7)
    ∷ Lose 1 ∷ Lose 2 ∷ Lose 3 ∷ Lose 4 ∷ Retire Up (own 7)
    ∷ Open Up (own 7) m9 ∷ Send Up (own 7) 1 ∷ Take S1 5 ∷ Deliver S1
    ∷ Restart Craft
    ∷ Send Up (own 7) 2 ∷ Take S1 6 ∷ Deliver S1 ∷ Take S1 5 ∷ Deliver S1 ∷ []

-- none of its acts is refused
pub passes : IsPass usual journal
unfolding packet_seen spelling checksum octets_in shift_all tc_field tc_verdict command_in tm_field
    tm_verdict body_of part_verdict first_of_numbers front_load_area front_head request_in
    body_meaning meaning arrival
passes = usual_pass journal refl

-- and none sets a clock back
forward : AllForward (reverse journal)
forward = all_are_forward (reverse journal) refl

-- what stands behind the forged report, and what before it
abbrev behind : List Move
behind = take 9 (reverse worked_moves)

abbrev before : List Move
before = drop 10 (reverse worked_moves)

-- its moves are those of the run, but that the message is finished
finished : moves_of (steps_of usual usual_memories (reverse journal))
    ≡ behind ++ Do (steps.Finish Up (own 7)) ∷ before
unfolding packet_seen spelling checksum octets_in shift_all tc_field tc_verdict command_in tm_field
    tm_verdict body_of part_verdict first_of_numbers front_load_area front_head request_in
    body_meaning meaning arrival
finished = ap moves_of (steps_is usual (reverse journal))

-- its log is that of the run
logged : log_told usual (history_after usual usual_memories (reverse journal)) ≡ reverse worked_log
unfolding packet_seen spelling checksum octets_in shift_all tc_field tc_verdict command_in tm_field
    tm_verdict body_of part_verdict first_of_numbers front_load_area front_head request_in
    body_meaning meaning arrival
logged = told_of usual (reverse journal)

-- the load's octets stand in the memory
loaded : memories usual usual_memories (history_after usual usual_memories (reverse journal))
    ≡ loaded_memories
unfolding packet_seen spelling checksum octets_in shift_all tc_field tc_verdict command_in tm_field
    tm_verdict body_of part_verdict first_of_numbers front_load_area front_head request_in
    body_meaning meaning arrival
loaded = ap (memories usual usual_memories) (recorded_is usual (reverse journal))

-- both parts of the shorter message came
first_came : whole.came usual (history_after usual usual_memories (reverse journal)) Up (own 7) 1
    ≡ true
unfolding packet_seen spelling checksum octets_in shift_all tc_field tc_verdict command_in tm_field
    tm_verdict body_of part_verdict first_of_numbers front_load_area front_head request_in
    body_meaning meaning arrival
first_came = ap (λ h. whole.came usual h Up (own 7) 1) (recorded_is usual (reverse journal))

last_came : whole.came usual (history_after usual usual_memories (reverse journal)) Up (own 7) 2
    ≡ true
unfolding packet_seen spelling checksum octets_in shift_all tc_field tc_verdict command_in tm_field
    tm_verdict body_of part_verdict first_of_numbers front_load_area front_head request_in
    body_meaning meaning arrival
last_came = ap (λ h. whole.came usual h Up (own 7) 2) (recorded_is usual (reverse journal))

-- the forged octets read as a report of an abortion
reads : arrival_in usual Down forged_report ≡ AnAbort (own 7) Expired
unfolding packet_seen spelling checksum octets_in shift_all tm_field tm_verdict abort_body abort_verdict
    arrival
reads = refl

-- ---- the run

-- the shorter message has two parts
both : (came : ℕ → Bool) → came 1 ≡ true → came 2 ≡ true → CameWhole usual came m9
both came one two zero low high = absurd (omega (arith, low))
both came one two (suc zero) low high = one
both came one two (suc (suc zero)) low high = two
both came one two (suc (suc (suc k))) low high = absurd (omega (arith, high))

-- the run can be, and comes to the ends of that world
pub record IsRun : Type 0 where
  pub can : CanMoveAll usual usual_memories (reverse worked_moves)
  pub log : (came_to usual usual_memories (reverse worked_moves)).ends.log ≡ reverse worked_log
  pub left : (came_to usual usual_memories (reverse worked_moves)).ends.memories ≡ loaded_memories
  pub whole : CameWhole usual (came_in usual usual_memories (reverse worked_moves) Up (own 7)) m9

pub runs : IsRun
runs =
    let es : List Act = reverse journal in
    let world = worlds_are_ends usual usual_memories es passes.configured forward passes.legal in
    let moves = steps_are_moves usual usual_memories (steps_of usual usual_memories es) world.can in
    let it =
    swapped usual usual_memories behind before (own 7) forged_report Expired reads
    (subst (λ (ms : List Move). CanMoveAll usual usual_memories ms) finished moves.can) in
    let came : (k : ℕ)
    → whole.came usual (history_after usual usual_memories es) Up (own 7) k ≡ true
    → came_in usual usual_memories (reverse worked_moves) Up (own 7) k ≡ true =
    λ k it.
    swapped_came usual usual_memories behind before (own 7) forged_report Expired reads
    (subst (λ (ms : List Move). CanMoveAll usual usual_memories ms) finished moves.can) (own 7) k
    ∙ ap (λ (ms : List Move). came_in usual usual_memories ms Up (own 7) k) (sym finished)
    ∙ moves_bring_the_same usual usual_memories (steps_of usual usual_memories es) Up (own 7) k
    world.can
    ∙ worlds_bring_the_same usual usual_memories es Up (own 7) k passes.configured forward
    passes.legal
    ∙ it in
    let same : (came_to usual usual_memories (reverse worked_moves)).ends
    ≡ (came_to usual usual_memories (moves_of (steps_of usual usual_memories es))).ends =
    ap (λ (p : Pair). p.ends) it.is
    ∙ ap (λ (ms : List Move). (came_to usual usual_memories ms).ends) (sym finished) in
    record {
      can = it.can;
      log =
          ap (λ (e : Ends). e.log) (same ∙ moves.ends) ∙ sym world.are.log ∙ logged;
      left =
          ap (λ (e : Ends). e.memories) (same ∙ moves.ends) ∙ sym world.are.memories
          ∙ world.are.shown.memories ∙ loaded;
      whole = both (came_in usual usual_memories (reverse worked_moves) Up (own 7))
          (came 1 first_came) (came 2 last_came);
    }
