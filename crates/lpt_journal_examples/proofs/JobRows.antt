-- Worked passes in which requests are executed, computed by the definitions.
use Rattle.std.proofs.Common.{◌≡◌, ap, refl, ℕ, List, [], ◌∷◌, drop, map, reverse, Some, None}
use Rattle.std.specs.List.{slice_get}
use Rattle.lpt_packet.specs.declared.direction.Direction.TheVariants.{Down}
use Rattle.lpt_packet.specs.Checksums.{checksum, octets_in, shift_all}
use Rattle.lpt_packet.specs.Packets.{packet_seen, spelling}
use Rattle.lpt_pus.specs.Commands.{tc_field, tc_verdict, command_in}
use Rattle.lpt_pus.specs.Telemetry.{tm_field, tm_verdict}
use Rattle.lpt_part.specs.Parts.{body_of, part_verdict}
use Rattle.lpt_ledger.specs.LeastFree.{first_of_numbers}
use Rattle.lpt_memory.specs.Requests.{front_load_area, front_range, front_head, request_in}
use Rattle.lpt_memory.specs.Meanings.{body_meaning, meaning}
use Rattle.lpt_events.specs.Arrivals.{arrival}
use Rattle.lpt_events.specs.declared.applied.Applied.TheVariants.{Done}
use Rattle.lpt_acts.specs.Acts.{Execute, Act, Send, Plain, Take, Deliver, Claim, Commit, Apply}
use Rattle.lpt_events.specs.declared.fault.StepFault.TheVariants.{HandFull, HandEmpty, NoJob, NotReady}
use Rattle.lpt_events.specs.declared.lane.Lane.TheVariants.{S1}
use Rattle.lpt_events.specs.declared.outcome.Outcome.TheVariants.{PlainReleased, ReportNoted}
use Rattle.lpt_events.specs.declared.reply.Answer.TheVariants.{Took, Delivered, Claimed, Committed, Applied as AppliedSo}
use Rattle.lpt_events.specs.declared.worker.Worker.TheVariants.{W1, W2}
use Rattle.lpt_journal.specs.Jobs.{executed, memories}
use Rattle.lpt_journal.specs.Journal.{SentPacket}
use Rattle.lpt_journal.specs.Link.{sent}
use Rattle.lpt_journal.specs.Releases.{releases}
use Rattle.lpt_journal.specs.Senders.{opened}
use Rattle.lpt_journal_examples.proofs.LegalRows.{usual_pass}
use Rattle.lpt_journal_examples.proofs.Listed.{recorded_is}
use Rattle.lpt_journal_examples.proofs.ListedReleases.{releases_passed}
use Rattle.lpt_journal_examples.proofs.Played.{Given, Gives, Refuses, played, played_is, gives, puts_packet}
use Rattle.lpt_journal_examples.specs.Passes.{IsPass, pass_history, answers, usual, usual_memories, load, executed_load, loaded_memories, clear, two_loads, cleared_memories, dump, dump_packet, report_packet, large_report, own}

-- an execution that puts so many packets, the first of which gets this number
abbrev applied_puts : (first count : ℕ) → Given
applied_puts first count =
    Gives (record {
      answer = AppliedSo (Done None);
      puts = Some (record { first = first; count = count });
    })

-- a packet that goes down
abbrev downlink : List ℕ → SentPacket
downlink b = record { direction = Down; octets = b }

-- ---- a load

-- ground gets the reports of acceptance, start and completion
pub executed_load-given : (played usual executed_load).given ≡
    puts_packet 0
    ∷ gives (Took 0) ∷ gives (Delivered (PlainReleased 27))
    ∷ gives (Claimed 0 0) ∷ gives (Committed 0 0) ∷ applied_puts 1 3
    ∷ gives (Took 1) ∷ gives (Delivered (ReportNoted 1 1))
    ∷ gives (Took 2) ∷ gives (Delivered (ReportNoted 1 3))
    ∷ gives (Took 3) ∷ gives (Delivered (ReportNoted 1 7)) ∷ []
unfolding packet_seen spelling checksum octets_in shift_all tc_field tc_verdict command_in tm_field
    tm_verdict first_of_numbers front_load_area front_head request_in body_meaning meaning arrival
executed_load-given = ap (λ p. p.given) (played_is usual executed_load)

-- the reports name the request by its first four octets, and are counted
pub executed_load-reports : drop 1 (sent (played usual executed_load).after) ≡
    downlink (8 ∷ 100 ∷ 192 ∷ 0 ∷ 0 ∷ 16 ∷ 32 ∷ 1 ∷ 1 ∷ 0 ∷ 0 ∷ 0 ∷ 1 ∷ 0 ∷ 0 ∷ 0 ∷ 0 ∷ 24 ∷ 100 ∷ 192 ∷ 0 ∷ 178 ∷ 177 ∷ [])
    ∷ downlink (8 ∷ 100 ∷ 192 ∷ 1 ∷ 0 ∷ 16 ∷ 32 ∷ 1 ∷ 3 ∷ 0 ∷ 0 ∷ 0 ∷ 1 ∷ 0 ∷ 0 ∷ 0 ∷ 0 ∷ 24 ∷ 100 ∷ 192 ∷ 0 ∷ 200 ∷ 70 ∷ [])
    ∷ downlink (8 ∷ 100 ∷ 192 ∷ 2 ∷ 0 ∷ 16 ∷ 32 ∷ 1 ∷ 7 ∷ 0 ∷ 0 ∷ 0 ∷ 1 ∷ 0 ∷ 0 ∷ 0 ∷ 0 ∷ 24 ∷ 100 ∷ 192 ∷ 0 ∷ 205 ∷ 153 ∷ []) ∷ []
unfolding packet_seen spelling checksum octets_in shift_all tc_field tc_verdict command_in tm_field
    tm_verdict first_of_numbers front_load_area front_head request_in body_meaning meaning arrival
executed_load-reports = ap (λ p. drop 1 (sent p.after)) (played_is usual executed_load)

-- none of its events is refused
pub executed_load-pass : IsPass usual executed_load
unfolding packet_seen spelling checksum octets_in shift_all tc_field tc_verdict command_in tm_field
    tm_verdict first_of_numbers front_load_area front_head request_in body_meaning meaning arrival
executed_load-pass = usual_pass executed_load refl

-- the octets stand in the memory, and nothing else changed
pub executed_load-left : memories usual usual_memories (pass_history usual executed_load)
    ≡ loaded_memories
unfolding packet_seen spelling checksum octets_in shift_all tc_field tc_verdict command_in tm_field
    tm_verdict first_of_numbers front_load_area front_head request_in body_meaning meaning arrival
executed_load-left = ap (memories usual usual_memories) (recorded_is usual (reverse executed_load))

-- ground gets the report of completion last
pub executed_load-reported :
    slice_get (answers usual executed_load) 11 ≡ Some (Delivered (ReportNoted 1 7))
unfolding packet_seen spelling checksum octets_in shift_all tc_field tc_verdict command_in tm_field
    tm_verdict first_of_numbers front_load_area front_head request_in body_meaning meaning arrival
executed_load-reported =
    ap (λ h. slice_get (reverse (map (λ x. x.reply.answer) h)) 11)
    (recorded_is usual (reverse executed_load))

-- ---- two loads

-- the pass, with events between that are refused
abbrev asked_loads : List Act
asked_loads =
    Apply Execute ∷ Plain 1 0 6 2 load ∷ Plain 1 0 6 2 clear
    ∷ Take S1 0 ∷ Deliver S1 ∷ Take S1 1 ∷ Deliver S1
    ∷ Commit W1 ∷ Claim W1 ∷ Claim W1 ∷ Claim W2
    ∷ Commit W2 ∷ Claim W2 ∷ Apply Execute
    ∷ Commit W1 ∷ Apply Execute ∷ Apply Execute ∷ Apply Execute ∷ []

-- nothing is executed before the first request's reading is there too
pub asked_loads-given : (played usual asked_loads).given ≡
    Refuses NoJob ∷ puts_packet 0 ∷ puts_packet 1
    ∷ gives (Took 0) ∷ gives (Delivered (PlainReleased 27))
    ∷ gives (Took 1) ∷ gives (Delivered (PlainReleased 25))
    ∷ Refuses HandEmpty ∷ gives (Claimed 0 0) ∷ Refuses HandFull ∷ gives (Claimed 0 1)
    ∷ gives (Committed 0 1) ∷ Refuses NoJob ∷ Refuses NotReady
    ∷ gives (Committed 0 0) ∷ gives (AppliedSo (Done None)) ∷ gives (AppliedSo (Done None))
    ∷ Refuses NoJob ∷ []
unfolding packet_seen spelling checksum octets_in shift_all tc_field tc_verdict command_in tm_field
    tm_verdict first_of_numbers front_load_area front_head request_in body_meaning meaning arrival
asked_loads-given = ap (λ p. p.given) (played_is usual asked_loads)

-- none of the pass's events is refused
pub two_loads-pass : IsPass usual two_loads
unfolding packet_seen spelling checksum octets_in shift_all tc_field tc_verdict command_in tm_field
    tm_verdict first_of_numbers front_load_area front_head request_in body_meaning meaning arrival
two_loads-pass = usual_pass two_loads refl

-- the requests are executed in order of release
pub two_loads-in_order : map (λ r. r.place) (executed usual (pass_history usual two_loads)) ≡ 3 ∷ 5
    ∷ []
unfolding packet_seen spelling checksum octets_in shift_all tc_field tc_verdict command_in tm_field
    tm_verdict first_of_numbers front_load_area front_head request_in body_meaning meaning arrival
two_loads-in_order =
    ap (λ h. map (λ r. r.place) (executed usual h)) (recorded_is usual (reverse two_loads))

-- the second one's octets stand over the first one's
pub two_loads-left : memories usual usual_memories (pass_history usual two_loads) ≡ cleared_memories
unfolding packet_seen spelling checksum octets_in shift_all tc_field tc_verdict command_in tm_field
    tm_verdict first_of_numbers front_load_area front_head request_in body_meaning meaning arrival
two_loads-left = ap (memories usual usual_memories) (recorded_is usual (reverse two_loads))

-- ---- two dumps

-- two octets are dumped, then three
abbrev dumps : List Act
dumps =
    Plain 1 0 6 5 (dump 2) ∷ Take S1 0 ∷ Deliver S1 ∷ Claim W1 ∷ Commit W1 ∷ Apply Execute
    ∷ Plain 1 0 6 5 (dump 3) ∷ Take S1 2 ∷ Deliver S1 ∷ Claim W2 ∷ Commit W2 ∷ Apply Execute
    ∷ Send Down (own 0) 4 ∷ []

-- one report is a packet; the other has one octet too many, and is opened under the least free name
pub dumps-given : (played usual dumps).given ≡
    puts_packet 0 ∷ gives (Took 0) ∷ gives (Delivered (PlainReleased 21))
    ∷ gives (Claimed 0 0) ∷ gives (Committed 0 0) ∷ applied_puts 1 1
    ∷ puts_packet 2 ∷ gives (Took 2) ∷ gives (Delivered (PlainReleased 21))
    ∷ gives (Claimed 0 1) ∷ gives (Committed 0 1) ∷ gives (AppliedSo (Done (Some (own 0))))
    ∷ puts_packet 3 ∷ []
unfolding packet_seen spelling checksum octets_in shift_all tc_field tc_verdict command_in tm_field
    tm_verdict body_of first_of_numbers front_range front_head request_in body_meaning meaning arrival
dumps-given = ap (λ p. p.given) (played_is usual dumps)

-- the packet, and the message: its count and its counter follow those of the packet
pub dumps-packet : slice_get (sent (played usual dumps).after) 1 ≡ Some (downlink
    (8 ∷ 100 ∷ 192 ∷ 0 ∷ 0 ∷ 24 ∷ 32 ∷ 6 ∷ 6 ∷ 0 ∷ 0 ∷ 0 ∷ 1 ∷ 0 ∷ 0 ∷ 0 ∷ 0 ∷ 1 ∷ 1 ∷ 0 ∷ 0 ∷ 0 ∷ 16 ∷ 0
    ∷ 2 ∷ 0 ∷ 0 ∷ 29 ∷ 15 ∷ 231 ∷ 68 ∷ []))
unfolding packet_seen spelling checksum octets_in shift_all tc_field tc_verdict command_in tm_field
    tm_verdict body_of first_of_numbers front_range front_head request_in body_meaning meaning arrival
dumps-packet = ap (λ p. slice_get (sent p.after) 1) (played_is usual dumps)

pub dumps-opened : opened (played usual dumps).after ≡ record {
  place = 11;
  direction = Down;
  name = own 0;
  message =
      8 ∷ 100 ∷ 192 ∷ 1 ∷ 0 ∷ 25 ∷ 32 ∷ 6 ∷ 6 ∷ 0 ∷ 1 ∷ 0 ∷ 1 ∷ 0 ∷ 0 ∷ 0 ∷ 0 ∷ 1 ∷ 1 ∷ 0 ∷ 0 ∷ 0 ∷ 16 ∷ 0
      ∷ 3 ∷ 0 ∷ 0 ∷ 0 ∷ 204 ∷ 156 ∷ 233 ∷ 8 ∷ [];
} ∷ []
unfolding packet_seen spelling checksum octets_in shift_all tc_field tc_verdict command_in tm_field
    tm_verdict body_of first_of_numbers front_range front_head request_in body_meaning meaning arrival
dumps-opened = ap (λ p. opened p.after) (played_is usual dumps)

-- ---- a report that goes down in parts

-- none of the pass's events is refused
pub large_report-pass : IsPass usual large_report
unfolding packet_seen spelling checksum octets_in shift_all tc_field tc_verdict command_in tm_field
    tm_verdict body_of part_verdict first_of_numbers front_range front_head request_in body_meaning
    meaning arrival
large_report-pass = usual_pass large_report refl

-- the execution opens the report under the least free name
pub large_report-opened :
    slice_get (answers usual large_report) 5 ≡ Some (AppliedSo (Done (Some (own 0))))
unfolding packet_seen spelling checksum octets_in shift_all tc_field tc_verdict command_in tm_field
    tm_verdict body_of part_verdict first_of_numbers front_range front_head request_in body_meaning
    meaning arrival
large_report-opened =
    ap (λ h. slice_get (reverse (map (λ x. x.reply.answer) h)) 5)
    (recorded_is usual (reverse large_report))

-- the request is released as it is, and the report on ground
pub large_report-released : releases usual (pass_history usual large_report)
    ≡ record { place = 2; of = None; message = dump_packet }
    ∷ record { place = 17; of = Some (Down, own 0); message = report_packet } ∷ []
unfolding packet_seen spelling checksum octets_in shift_all tc_field tc_verdict command_in tm_field
    tm_verdict body_of part_verdict first_of_numbers front_range front_head request_in body_meaning
    meaning arrival
large_report-released = releases_passed usual large_report
